-- A run of ASCII: which bytes it has, and that it is passed a byte a character.
use Prim.Native.Nat.{ℕ, suc, ◌+◌, ◌≤◌, ◌<◌}
use native.Mathlib.Omega.{arith}
use native.Mathlib.Nat.{add-zero}
use mathlib.Core.Path.{◌≡◌, ap, sym, ◌∙◌}
use mathlib.Core.List.{List, [], ◌∷◌}
use mathlib.Core.Bool.{Bool, true, false, not}
use lib.Dec.{leb}
use lib.ListN.{drop}
use lib.Seq.{drop-drop}
use borrow.Author.Tests.{leb-true, leb-false}
use Rattle.laws.specs.Texts.{span}
use Rattle.laws.proofs.Choice.{by_bool, within_is}
use Rattle.laws.proofs.Blocks.{block_on}
use Rattle.chars.specs.Utf8.{ascii, sequences, verdict}
use Rattle.chars.specs.Wide.{Passed}
use Rattle.chars.proofs.Table.{within_in, within_above}
use Rattle.chars.proofs.Sequences.{sequences-char}
use Rattle.chars.proofs.Round.{one_read}

-- ---- the test

pub ascii_yes : (b : ℕ) → b < 0x80 → ascii b ≡ true
ascii_yes b h = within_in 0x00 0x7F b (omega arith) (omega arith)

pub ascii_no : (b : ℕ) → 0x80 ≤ b → ascii b ≡ false
ascii_no b h = within_above 0x00 0x7F b (omega arith)

pub ascii_ends : (b : ℕ) → leb 0x80 b ≡ not (ascii b)
ascii_ends b =
    by_bool (leb 0x80 b)
    (λ e. rw (ascii_no b (leb-true 0x80 b e)) e)
    (λ e. rw (ascii_yes b (leb-false 0x80 b e)) e)

-- ---- a run of ASCII has no bad sequence

pass : (l : List ℕ) (at : ℕ) → verdict (sequences 0 (at + span ascii l) (drop (span ascii l) l)) ≡ verdict (sequences 0 at l)
unfolding span
pass [] at = rw add-zero
pass (b ∷ l) at = by_bool (ascii b)
    (λ e. let h = within_is 0x00 0x7F b e in
    let z : at + suc (span ascii l) ≡ at + 1 + span ascii l = omega arith in
    rw e (rw z (pass l (at + 1) ∙ sym (ap verdict (sequences-char at (b ∷ l) b 1 (one_read b l (omega arith)))))))
    (λ e. rw e (rw add-zero))

pub ascii_pass : (s : List ℕ) (i : ℕ) → verdict (sequences 0 (i + span ascii (drop i s)) (drop (i + span ascii (drop i s)) s)) ≡ verdict (sequences 0 i (drop i s))
ascii_pass s i = rw (← drop-drop (span ascii (drop i s)) i s) (pass (drop i s) i)

pub passed_run : (s : List ℕ) (at r : ℕ) → r ≡ at + span ascii (drop at s) → Passed s at r
passed_run s at r e = (omega (arith, e), ap (λ (k : ℕ). verdict (sequences 0 k (drop k s))) e ∙ ascii_pass s at)

pub passed_block : (s : List ℕ) (at n : ℕ) {r : Bool} → r ≡ leb n (span ascii (drop at s)) → r ≡ true → Passed s at (at + n)
passed_block s at n e t =
    (omega arith, sym (ascii_pass s (at + n)) ∙ ap (λ (k : ℕ). verdict (sequences 0 k (drop k s))) (block_on ascii s at n e t) ∙ ascii_pass s at)
