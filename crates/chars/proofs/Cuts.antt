-- A good text cut at a place that lies in no character: both parts are good.
use Rattle.std.proofs.Common.{None}
use Prim.Native.Nat.{ℕ, zero, suc, ◌+◌, ◌-◌, ◌<◌}
use native.Mathlib.Omega.{arith}
use mathlib.Core.Path.{◌≡◌, refl, sym, ap, ◌∙◌, subst}
use mathlib.Core.Bool.{true, false}
use mathlib.Core.List.{List, [], ◌∷◌, ◌++◌}
use lib.Dec.{leb, ltb}
use lib.ListN.{length, get_or, take, drop}
use lib.Seq.{take-nil, drop-nil, take-append-add, drop-append-add, get_or-append-add, drop-cons, drop-drop}
use borrow.Author.Tests.{leb-true, leb-false, ltb-true, ltb-false, lt-ltb}
use Rattle.laws.specs.Quoted.{within}
use Rattle.laws.proofs.Choice.{by_bool, yes_no}
use Rattle.chars.specs.Utf8.{first_bad, chars}
use Rattle.chars.specs.Encode.{utf8, width, bytes_of}
use Rattle.chars.proofs.Table.{within_in, within_below}
use Rattle.chars.proofs.Width.{width-utf8, utf8-one, utf8-two, utf8-three, utf8-four}
use Rattle.chars.proofs.Round.{one_read}
use Rattle.chars.proofs.Chars.{chars-char}
use Rattle.chars.proofs.Good.{Scalars, good_bytes_lem, good_scalars, encoded_good, encoded_rest}

-- ---- the bytes of a character after its first

abbrev Tails : List ℕ → Type 0
Tails [] = Unit {0}
Tails (b ∷ l) = (within 0x80 0xBF b ≡ true) × Tails l

tail_at : (l more : List ℕ) → Tails l → (n : ℕ) → n < length l → within 0x80 0xBF (get_or (l ++ more) n 0) ≡ true
tail_at [] more t n h = absurd (omega arith)
tail_at (b ∷ l) more t zero h = t.0
tail_at (b ∷ l) more t (suc n) h = tail_at l more t.1 n (omega arith)

record Spelt (l : List ℕ) : Type 0 where
  head : ℕ
  later : List ℕ
  shape : l ≡ head ∷ later
  tails : Tails later

six : (x : ℕ) → x < 64 → within 0x80 0xBF (0x80 + x) ≡ true
six x h = within_in 0x80 0xBF (0x80 + x) (omega arith) (omega arith)

spelt : (c : ℕ) → Spelt (utf8 c)
spelt c = by_bool (ltb c 0x80)
    (λ a. record { head = c; later = []; shape = utf8-one c (ltb-true c 0x80 a); tails = tt })
    (λ a. by_bool (ltb c 0x800)
    (λ b. record { head = _; later = _; shape = utf8-two c (ltb-false c 0x80 a) (ltb-true c 0x800 b); tails = (six _ (omega arith), tt) })
    (λ b. by_bool (ltb c 0x10000)
    (λ d. record { head = _; later = _; shape = utf8-three c (ltb-false c 0x800 b) (ltb-true c 0x10000 d); tails = (six _ (omega arith), (six _ (omega arith), tt)) })
    (λ d. record { head = _; later = _; shape = utf8-four c (ltb-false c 0x10000 d); tails = (six _ (omega arith), (six _ (omega arith), (six _ (omega arith), tt))) })))

-- ---- a text of characters, cut where none goes on

record Cut (s : List ℕ) (n : ℕ) : Type 0 where
  before : List ℕ
  after : List ℕ
  fine_before : Scalars before
  fine_after : Scalars after
  bytes_before : bytes_of before ≡ take n s
  bytes_after : bytes_of after ≡ drop n s

cut_at : (cs : List ℕ) → Scalars cs → (n : ℕ) → within 0x80 0xBF (get_or (bytes_of cs) n 0) ≡ false → Cut (bytes_of cs) n
unfolding bytes_of
cut_at [] h n e = record { before = []; after = []; fine_before = tt; fine_after = tt; bytes_before = sym (take-nil n); bytes_after = sym (drop-nil n) }
cut_at (c ∷ cs) h zero e = record { before = []; after = c ∷ cs; fine_before = tt; fine_after = h; bytes_before = refl; bytes_after = refl }
cut_at (c ∷ cs) h (suc n) e = by_bool (leb (width c) (suc n))
    (λ a. after_it (suc n - width c) (λ k f. cut_at cs h.1 k f) (omega (arith, width-utf8 c, leb-true (width c) (suc n) a)))
    (λ a. inside (omega (arith, width-utf8 c, leb-false (width c) (suc n) a)))
  where
    after_it : (k : ℕ) → ((k : ℕ) → within 0x80 0xBF (get_or (bytes_of cs) k 0) ≡ false → Cut (bytes_of cs) k) → suc n ≡ length (utf8 c) + k → Cut (utf8 c ++ bytes_of cs) (suc n)
    after_it k rec q =
        let r : Cut (bytes_of cs) k = rec k
        (sym (ap (within 0x80 0xBF) (ap (λ (x : ℕ). get_or (utf8 c ++ bytes_of cs) x 0) q ∙ get_or-append-add (utf8 c) (bytes_of cs) k 0)) ∙ e) in
        record {
          before = c ∷ r.before;
          after = r.after;
          fine_before = (h.0, r.fine_before);
          fine_after = r.fine_after;
          bytes_before = ap (λ (l : List ℕ). utf8 c ++ l) r.bytes_before ∙ sym (ap (λ (x : ℕ). take x (utf8 c ++ bytes_of cs)) q ∙ take-append-add (utf8 c) (bytes_of cs) k);
          bytes_after = r.bytes_after ∙ sym (ap (λ (x : ℕ). drop x (utf8 c ++ bytes_of cs)) q ∙ drop-append-add (utf8 c) (bytes_of cs) k);
        }

    inside : suc n < length (utf8 c) → Cut (utf8 c ++ bytes_of cs) (suc n)
    inside l =
        let p : Spelt (utf8 c) = spelt c in
        let z : within 0x80 0xBF (get_or (utf8 c ++ bytes_of cs) (suc n) 0) ≡ true =
        ap (λ (x : List ℕ). within 0x80 0xBF (get_or (x ++ bytes_of cs) (suc n) 0)) p.shape
        ∙ tail_at p.later (bytes_of cs) p.tails n (omega (arith, ap length p.shape)) in
        yes_no (sym z ∙ e)

pub good_cut : (s : List ℕ) → first_bad s ≡ None → (n : ℕ) → within 0x80 0xBF (get_or s n 0) ≡ false → (first_bad (take n s) ≡ None) × (first_bad (drop n s) ≡ None)
good_cut s g n e =
    let b : bytes_of (chars s) ≡ s = good_bytes_lem s g in
    let k : Cut s n = subst (λ (l : List ℕ). Cut l n) b (cut_at (chars s) (good_scalars s g) n (ap (λ (l : List ℕ). within 0x80 0xBF (get_or l n 0)) b ∙ e)) in (
      ap first_bad (sym k.bytes_before) ∙ encoded_good k.before k.fine_before,
      ap first_bad (sym k.bytes_after) ∙ encoded_good k.after k.fine_after,
    )

-- ---- past a character of ASCII

module _ (s : List ℕ) (at : ℕ) (g : first_bad s ≡ None) (h : at < length s) (small : get_or s at 0 < 0x80) where
  from_here : first_bad (drop at s) ≡ None
  from_here = (good_cut s g at (within_below 0x80 0xBF (get_or s at 0) small)).1

  reads_here : chars (drop at s) ≡ get_or s at 0 ∷ chars (drop 1 (drop at s))
  reads_here = chars-char (drop at s) (get_or s at 0) 1 (rw (drop-cons s at 0 h) (one_read (get_or s at 0) _ small))

  one_wide : width (get_or s at 0) ≡ 1
  unfolding width
  one_wide = rw (lt-ltb (get_or s at 0) 0x80 small)

  pub good_past : first_bad (drop (at + 1) s) ≡ None
  good_past =
      let b = get_or s at 0 in
      let cs = chars (drop 1 (drop at s)) in
      let k : Scalars (b ∷ cs) = subst Scalars reads_here (good_scalars (drop at s) from_here) in
      let e : drop at s ≡ bytes_of (b ∷ cs) = sym (good_bytes_lem (drop at s) from_here) ∙ ap bytes_of reads_here in
      let d : drop (at + 1) s ≡ bytes_of cs =
      sym (drop-drop 1 at s) ∙ ap (λ (n : ℕ). drop n (drop at s)) (sym one_wide) ∙ ap (drop (width b)) e ∙ encoded_rest b cs k.0 in
      ap first_bad d ∙ encoded_good cs k.1
