-- Two tests together, the first known.
use mathlib.Core.Path.{◌≡◌, refl}
use mathlib.Core.Bool.{Bool, true, false, ◌&&◌}

pub both_no : (x y : Bool) → x ≡ false → false ≡ (x && y)
both_no x y e = rw e refl

pub both_yes : (x y : Bool) → x ≡ true → y ≡ (x && y)
both_yes x y e = rw e refl
