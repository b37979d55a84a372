use lib.Ieee.{round, of_bits, of_int, neg}
use Rattle.inverted_cone.specs.InvertedCone.{cone_freqs, cone_elevs, cone, cone_at, cone_value}
use Rattle.inverted_cone.proofs.cone.cone_value.Goals as goal

pub returns : goal.returns
unfolding cone_value cone_at cone_freqs cone_elevs cone round of_bits of_int neg
returns c = rw (
  c.interp.ensures,
  c.interp-g1.ensures,
  c.interp-g2.ensures,
  c.weight-fwt.ensures,
  c.weight-awt.ensures,
  c.upper-ian.ensures.0,
  c.upper-ifr.ensures.0,
)
