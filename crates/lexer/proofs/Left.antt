-- What is read of a source and what is left of it: the item's bytes are the source's from its start to its end, and the characters that
-- are left are those from its end on. One induction over the machine's scan.
use Rattle.chars.specs.Utf8.{chars}
use Rattle.chars.specs.Encode.{width, utf8}
use Rattle.items.specs.Classes.{first_of}
use Rattle.items.specs.Readers.{SoFar, so_far, eat, Read, read_item}
use Rattle.items.specs.Machine.{step_of, on_first, scan_of}
use Rattle.items.specs.declared.Phase.{Phase}
use Rattle.items.proofs.Cases.{by_next}
use Rattle.items.proofs.Same.{item_same}
use Rattle.lexer.proofs.CharacterAt.{Here, char_here}
use Prim.Native.Nat.{ℕ, ◌+◌, ◌-◌, ◌≤◌}
use mathlib.Core.Path.{◌≡◌, sym, ap, ◌∙◌}
use mathlib.Core.Bool.{Bool}
use mathlib.Core.List.{List, [], ◌∷◌, ◌++◌}
use lib.ListN.{length, take, drop}
use lib.Seq.{take-add, drop-drop}
use native.Mathlib.Omega.{arith}

-- the part of a source from a place to a place
abbrev pub part : List ℕ → ℕ → ℕ → List ℕ
part s a b = take (b - a) (drop a s)

pub record ReadTo (s : List ℕ) (start : ℕ) (r : Read) : Type 0 where
  pub rest : r.rest ≡ chars (drop r.item.at s)
  pub bytes : r.item.bytes ≡ part s start r.item.at
  pub inside : r.item.at ≤ length s

module _ (s : List ℕ) (start : ℕ) where
  part_more : (at n : ℕ) → start ≤ at → part s start at ++ take n (drop at s) ≡ part s start (at + n)
  part_more at n h =
      let p : at + n - start ≡ (at - start) + n = omega arith in
      let q : start + (at - start) ≡ at = omega arith in
      let d : drop (at - start) (drop start s) ≡ drop at s = drop-drop (at - start) start s ∙ ap (λ (x : ℕ). drop x s) q in
      sym (ap (λ (x : ℕ). take x (drop start s)) p ∙ take-add (at - start) n (drop start s) ∙ ap (λ (l : List ℕ). part s start at ++ take n l) d)

  part_char : (at c : ℕ) (cs : List ℕ) → start ≤ at → Here s at c cs → part s start at ++ utf8 c ≡ part s start (at + width c)
  part_char at c cs h k =
      let w : at + width c - at ≡ width c = omega arith in
      let b : take (width c) (drop at s) ≡ utf8 c = sym (ap (λ (x : ℕ). take x (drop at s)) w) ∙ k.char.bytes in
      ap (λ (l : List ℕ). part s start at ++ l) (sym b) ∙ part_more at (width c) h

  scan_left : (report : Bool) (p : Phase) (i : SoFar) (cs : List ℕ) → start ≤ i.at → i.at ≤ length s → cs ≡ chars (drop i.at s)
      → i.bytes ≡ part s start i.at → ReadTo s start (scan_of report p i cs)
  unfolding scan_of
  scan_left report p i [] h k e b = record { rest = e; bytes = b; inside = k }
  scan_left report p i (c ∷ cs) h k e b =
      by_next (step_of report p i c)
      (λ q f. let H : Here s i.at c cs = char_here s i.at c cs (sym e) in
      rw (f, scan_of) (scan_left report q (eat i c) cs (omega arith) H.char.inside H.rest
      (ap (λ (l : List ℕ). l ++ utf8 c) b ∙ part_char i.at c cs h H)))
      (λ o f. rw (f, scan_of) (record { rest = e; bytes = b; inside = k }))

-- the item that starts with c at a place
pub left_here : (s : List ℕ) (report : Bool) (at c : ℕ) (cs : List ℕ) → chars (drop at s) ≡ c ∷ cs → ReadTo s at (read_item report at c cs)
left_here s report at c cs e =
    let H : Here s at c cs = char_here s at c cs e in
    rw (item_same report at c cs) at
    (scan_left s at report (on_first (first_of c)) (eat (so_far [] at) c) cs (omega arith) H.char.inside H.rest (sym H.char.bytes))
