-- An index that is a text's: the text is within the limit and UTF-8, and the index is its line starts.
use Rattle.std.proofs.Common.{None, Option, Some}
use mathlib.Core.Path.{◌≡◌, refl, sym}
use mathlib.Core.Bool.{Bool, true}
use mathlib.Core.List.{List}
use Prim.Native.Nat.{ℕ, ◌≤◌}
use lib.ListN.{length}
use borrow.Author.Tests.{lt-ltb, le-ltb}
use Rattle.laws.specs.Texts.{same}
use Rattle.laws.proofs.Choice.{impossible}
use Rattle.laws.proofs.Compared.{same_is}
use Rattle.chars.specs.Utf8.{first_bad}
use Rattle.refusal.specs.Refusals.{limit}
use Rattle.lines.specs.Starts.{starts}
use Rattle.lines.specs.Place.{good_and, is_index}
use Rattle.lines.proofs.Tests.{by_less}

both_true : (u : Option ℕ) (t : Bool) → good_and u t ≡ true → (u ≡ None) × (t ≡ true)
both_true None t e = (refl, e)
both_true (Some at) t e = impossible cc

pub index_is : (s index : List ℕ) → is_index s index ≡ true → (length s ≤ limit) × (first_bad s ≡ None) × (index ≡ starts s)
unfolding is_index
index_is s index =
    by_less limit (length s)
    (λ h. rw (lt-ltb limit (length s) h) (λ e. impossible cc))
    (λ h. rw (le-ltb limit (length s) h) (λ e. let b = both_true (first_bad s) (same (starts s) index) e in (h, b.0, sym (same_is (starts s) index b.1))))
