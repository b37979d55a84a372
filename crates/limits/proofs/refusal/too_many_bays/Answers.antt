use Rattle.std.proofs.Common.{◌≡◌, sym, ap, ◌∙◌, lit≤, lit<, w32, rules}
use lib.Ieee.{of_bits, round}
use mir.ValLaws.{to_z-of_z}
use Rattle.parameters.specs.Params.{is_type}
use Rattle.parameters.specs.Kind.{kind_of, is_kind}
use Rattle.parameters.proofs.Numbers.{is_kind_lem, not_kind}
use Rattle.parameters.specs.declared.kind.Kind.{Kind}
use Rattle.parameters.specs.declared.kind.Kind.TheVariants as K
use Rattle.limits.specs.Tests.{too_many_bays}
use Rattle.limits.proofs.refusal.too_many_bays.Goals as goal
use Rattle.limits.proofs.refusal.too_many_bays.Goals.{After-from}

-- what the kind says of the number 6
six : (c : After-from) → is_type c.args.kop 6 ≡ is_kind c.from.result 6
six c =
    sym (ap (λ (k : Kind). is_kind k 6) (c.from.ensures ∙ ap kind_of (to_z-of_z w32 c.args.kop (search rules))) ∙ is_kind_lem c.args.kop 6 (lit< tt) (lit≤ tt))

pub returns-in-Curtain : goal.returns-in-Curtain
unfolding too_many_bays round of_bits
returns-in-Curtain c = rw (six c.before, c.in-Curtain.is)

pub returns-in_default : goal.returns-in_default
unfolding too_many_bays
returns-in_default c = rw (six c.before, not_kind _ K.Curtain c.in_default.not-Curtain)
