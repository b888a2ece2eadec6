-- What `Nearest` says of one fraction: the floats nearest to 1 / 10 and to a number half way between two floats.
use Rattle.std.specs.Prelude.{ℕ, ◌^◌, ◌≡◌, refl, false, pos, negsuc}
use Rattle.std.proofs.Common.{lit≤, lit<}
use Rattle.std.specs.Float.{fin}
use Rattle.coordinates.specs.Nearest.{Nearest}

-- 0.1 in units of 2 ^ -56
abbrev tenth_units : ℕ
tenth_units = 7205759403792794

tenth : Nearest false 1 10 (fin false tenth_units (negsuc 55))
tenth = record {
  k = 0;
  l = 56;
  q = tenth_units;
  least = lit≤ tt;
  below = lit< tt;
  value = (refl, refl);
  near = lit≤ tt;
  tie = λ e. refl;
}

-- 2 ^ 53 + 1 lies half way between two floats: in units of 2, the even one of 2 ^ 52 and 2 ^ 52 + 1
abbrev half_way_units : ℕ
half_way_units = 4503599627370496

half_way : Nearest false 9007199254740993 1 (fin false half_way_units (pos 1))
half_way = record {
  k = 1;
  l = 0;
  q = half_way_units;
  least = lit≤ tt;
  below = lit< tt;
  value = (refl, refl);
  near = lit≤ tt;
  tie = λ e. refl;
}
