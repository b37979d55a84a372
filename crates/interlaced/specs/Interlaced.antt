-- Document 01 section 4: `iongain2`'s arm 10, the terminated interlaced rhombic. Definitions only.
use Rattle.std.specs.Prelude.{Float}
use Rattle.std.specs.Float.Ieee.{neg}
use Rattle.single.specs.Single.{◌⊞◌, ◌⊟◌, ◌⊠◌, ◌⊘◌, num}
use Rattle.root.specs.Root.{root}
use Rattle.elementary.specs.Trigonometric.{sine_cosine_of}
use Rattle.trigonometric.specs.declared.trigonometric.SineCosine.{SineCosine}
use Rattle.angles.specs.declared.angles.Elevation.{Elevation}
use Rattle.reflection.specs.declared.ground.Ground.{Ground}
use Rattle.reflection.specs.Ground.{reflected_of}
use Rattle.rhombics.specs.declared.legs.Legs.{Legs}
use Rattle.interlaced.specs.declared.interlaced.Offset.{Offset}
use Rattle.rhombics.specs.Legs.{elfac_of}

-- the second rhombic stands ht above the first and ss before it, along the axis, at the distance d
unfoldable pub offset_of : Float → Float → Float → Offset
offset_of ht ss wave =
    let d = root (ss ⊠ ss ⊞ ht ⊠ ht) in
    record {
      ss = ss;
      d = d;
      sg = ht ⊘ d;
      cg = ss ⊘ d;
      htwave = num 6283185308 1000000000 ⊠ ht ⊘ wave;
      wavenumber = num 6283185308 1000000000 ⊘ wave;
    }

unfoldable pub y_of : Offset → Elevation → Float → Float
y_of o e cb = o.wavenumber ⊠ (o.ss ⊟ o.d ⊠ (e.q ⊠ o.sg ⊞ e.t ⊠ o.cg ⊠ cb))

unfoldable pub z_of : Offset → Elevation → Float → Float
z_of o e y = y ⊟ num 2 1 ⊠ o.htwave ⊠ e.q

-- h1v and h2 of ch and yh; v1 and v2 are the same of cv and yv
unfoldable pub h1v_of : Float → SineCosine → SineCosine → SineCosine → Float
h1v_of c yh y z = num 1 1 ⊞ y.cosine ⊟ c ⊠ (yh.cosine ⊠ (num 1 1 ⊞ z.cosine) ⊟ yh.sine ⊠ z.sine)

unfoldable pub h2_of : Float → SineCosine → SineCosine → SineCosine → Float
h2_of c yh y z = neg y.sine ⊟ c ⊠ (neg yh.sine ⊠ (num 1 1 ⊞ z.cosine) ⊟ yh.cosine ⊠ z.sine)

-- hk, and vk
unfoldable pub hk_of : Float → SineCosine → SineCosine → SineCosine → Float
hk_of c yh y z = h1v_of c yh y z ⊠ h1v_of c yh y z ⊞ h2_of c yh y z ⊠ h2_of c yh y z

unfoldable pub interlaced_of : Legs → Offset → Elevation → Ground → Float
interlaced_of legs o e earth =
    let elfac = elfac_of legs e in
    let elfac2 = elfac ⊠ elfac in
    let y = y_of o e legs.cb in
    let z = z_of o e y in
    -- of the Rust's yh and yv
    let images = reflected_of earth.psih earth.psiv (num 2 1 ⊠ legs.hwave) e.q in
    let hk = hk_of earth.ch images.horizontal (sine_cosine_of y) (sine_cosine_of z) in
    let brk = legs.cb ⊟ legs.srhi ⊠ e.t in
    let hrain = elfac2 ⊠ brk ⊠ brk ⊠ hk in
    let vk = hk_of earth.cv images.vertical (sine_cosine_of y) (sine_cosine_of z) in
    let brv = legs.sb ⊠ legs.sb ⊠ e.r in
    let vrain = elfac2 ⊠ brv ⊠ vk in
    (hrain ⊞ vrain) ⊠ num 8 10
