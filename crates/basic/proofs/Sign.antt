-- The sign bit by the library's words. Assumes nothing.
use Rattle.std.proofs.Common.{◌≡◌, true, false, refl}
use Rattle.std.specs.Float.{is_sign_negative}
use lib.Ieee.{Float, nan, inf, fin, is_nan}
use Rattle.single.specs.Single.{is_negative}

pub sign_is : (x : Float) → is_sign_negative x ≡ is_negative x
unfolding is_sign_negative
sign_is nan = refl
sign_is (inf s) = refl
sign_is (fin s m e) = refl

pub nan_is : (x : Float) → is_nan x ≡ true → is_negative x ≡ false
unfolding is_nan
nan_is nan h = refl
nan_is (inf s) h = absurd (let z : false ≡ true = h in cc)
nan_is (fin s m e) h = absurd (let z : false ≡ true = h in cc)
