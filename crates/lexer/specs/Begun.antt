-- Where the next item begins, as far as one look reads it.
use Rattle.std.specs.Prelude.{ℕ, ◌+◌, ◌≤◌, ◌≡◌, Bool, List, length, drop, None}
use Rattle.chars.specs.Utf8.{chars}
use Rattle.items.specs.Classes.{first_of}
use Rattle.items.specs.Machine.{on_first, depth_of}
use Rattle.items.specs.declared.Phase.{Phase}
use Rattle.items.specs.declared.Phase.TheVariants as ph
use Rattle.items.specs.declared.Quotes.TheVariants.{Double}
use Rattle.steps.specs.Scan.{answer}
use Rattle.items_telling.specs.Strings.{StrungAs}
use Rattle.items_telling.specs.declared.Strung.TheVariants.{Fails}
use Rattle.lexer.specs.Reading.{first_at, start_from}
use Rattle.lexer.specs.Glance.{Begins}
use Rattle.lexer.specs.declared.Beginning.{Beginning}
use Rattle.lexer.specs.declared.Beginning.TheVariants.{At, Wrong, Nothing}

-- the item that comes next from the place `at` on starts at the place a, and a scan of it may go on in the phase p at the place `from`
pub record Stands (s : List ℕ) (at a from : ℕ) (p : Phase) : Type 0 where
  pub c : ℕ
  pub next : ℕ
  pub starts : start_from at (chars (drop at s)) ≡ first_at c a next
  pub ahead : a ≤ from
  pub inside : from ≤ length s
  pub deep : depth_of p ≤ from
  pub same : (report : Bool) → answer s report a p from ≡ answer s report a (on_first (first_of c)) next

-- a string starts at the place `at`, and is the error at the character at the place e
abbrev pub WrongAt : List ℕ → ℕ → ℕ → Type 0
WrongAt s at e = Begins s at (at + 1) (ph.Quoted Double) × StrungAs s (at + 1) (Fails e)

abbrev pub BegunAs : List ℕ → ℕ → Beginning → Type 0
BegunAs s at (At a from p) = Stands s at a from p
BegunAs s at (Wrong e) = WrongAt s at e
BegunAs s at Nothing = start_from at (chars (drop at s)) ≡ None
