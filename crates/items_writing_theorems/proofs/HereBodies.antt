-- The body of a here-string is whole characters.
use Prim.Native.Nat.{ℕ, suc, ◌+◌, ◌-◌, ◌≤◌, ◌<◌}
use mathlib.Core.Path.{◌≡◌, refl, sym, ap, subst, ◌∙◌}
use mathlib.Core.Bool.{true, false}
use mathlib.Core.List.{List, [], ◌∷◌, ◌++◌}
use lib.ListN.{length, take, drop, length-drop, take-append-drop, drop_of_length-le}
use lib.Seq.{drop-drop}
use lib.Dec.{eqb, ltb, leb}
use native.Mathlib.Omega.{arith}
use borrow.Author.Tests.{ltb-false, leb-true, leb-false}
use Rattle.laws.specs.Quoted.{code, codes}
use Rattle.laws.specs.Texts.{span, before}
use Rattle.laws.proofs.Choice.{by_bool, no_yes}
use Rattle.laws.proofs.Compared.{same-begins, same_is}
use Rattle.chars.specs.Encode.{bytes_of}
use Rattle.chars.proofs.Good.{Scalars}
use Rattle.items.specs.Readers.{unreturned, line_of, after_line, here_inside, ends_with, here_ends}
use Rattle.items_r7rs.specs.Repeated.{Many, done, more}
use Rattle.items_r7rs.proofs.Bytes.{High, Beyond, all_high}
use Rattle.items_r7rs.proofs.Classes.{beyond_differs}
use Rattle.items_writing_theorems.proofs.Characters.{Texty, texty_none, texty_more, texty_ascii, split, nothing_bytes}
use Rattle.items_writing_theorems.proofs.Fronts.{whole_front}

-- ---- a line, byte by byte

module _ (x : ℕ) (l : List ℕ) where
  before_ends : eqb x (code "\n") ≡ true → before (code "\n") (x ∷ l) ≡ 0
  unfolding span
  before_ends e = rw e

  before_on : eqb x (code "\n") ≡ false → before (code "\n") (x ∷ l) ≡ suc (before (code "\n") l)
  unfolding span
  before_on e = rw e

  line_ends : eqb x (code "\n") ≡ true → line_of (x ∷ l) ≡ []
  unfolding unreturned
  line_ends e = rw (before_ends e)

  line_returns : eqb x (code "\n") ≡ false → eqb x (code "\r") ≡ true → line_of (x ∷ l) ≡ line_of l
  unfolding unreturned
  line_returns e f = rw (before_on e) (rw f)

  line_goes : eqb x (code "\n") ≡ false → eqb x (code "\r") ≡ false → line_of (x ∷ l) ≡ x ∷ line_of l
  unfolding unreturned
  line_goes e f = rw (before_on e) (rw f)

  after_ends : eqb x (code "\n") ≡ true → after_line (x ∷ l) ≡ l
  after_ends e = rw (before_ends e)

  after_goes : eqb x (code "\n") ≡ false → after_line (x ∷ l) ≡ after_line l
  after_goes e =
      let f : suc (before (code "\n") l) + 1 ≡ suc (before (code "\n") l + 1) = omega arith in
      rw (before_on e, f)

-- ---- characters past ASCII

line_highs : (r : List ℕ) {bs : List ℕ} → Many High bs → (line_of (bs ++ r) ≡ bs ++ line_of r) × (after_line (bs ++ r) ≡ after_line r)
line_highs r done = (refl, refl)
line_highs r (more {c = b} {t = bs} h m) =
    let k = line_highs r m in
    let e : eqb b (code "\n") ≡ false = beyond_differs b h (code "\n") refl in
    let f : eqb b (code "\r") ≡ false = beyond_differs b h (code "\r") refl in
    (line_goes b (bs ++ r) e f ∙ ap (λ (l : List ℕ). b ∷ l) k.0, after_goes b (bs ++ r) e ∙ k.1)

line_high : (r : List ℕ) {bs : List ℕ} → Beyond bs → (line_of (bs ++ r) ≡ bs ++ line_of r) × (after_line (bs ++ r) ≡ after_line r)
line_high r (all_high h m) = line_highs r (more h m)

-- ---- the line and what follows it

line_none : line_of [] ≡ []
unfolding span unreturned
line_none = refl

line_texty : (u : List ℕ) → Scalars u → Texty (line_of (bytes_of u))
line_texty [] h = rw (nothing_bytes, line_none) texty_none
line_texty (c ∷ u) h = split c u (λ (l : List ℕ). Texty (line_of l))
    (λ l. by_bool (eqb c (code "\n"))
    (λ e. rw (line_ends c (bytes_of u) e) texty_none)
    (λ e. by_bool (eqb c (code "\r"))
    (λ f. rw (line_returns c (bytes_of u) e f) (line_texty u h.1))
    (λ f. rw (line_goes c (bytes_of u) e f) (texty_ascii c l h.0 (line_texty u h.1)))))
    (λ b. rw (line_high (bytes_of u) b).0 (texty_more c h.0 (line_texty u h.1)))

after_none : after_line [] ≡ []
unfolding span
after_none = refl

after_texty : (u : List ℕ) → Scalars u → Texty (after_line (bytes_of u))
after_texty [] h = rw (nothing_bytes, after_none) texty_none
after_texty (c ∷ u) h = split c u (λ (l : List ℕ). Texty (after_line l))
    (λ l. by_bool (eqb c (code "\n"))
    (λ e. rw (after_ends c (bytes_of u) e) (u, (refl, h.1)))
    (λ e. rw (after_goes c (bytes_of u) e) (after_texty u h.1)))
    (λ b. rw (line_high (bytes_of u) b).1 (after_texty u h.1))

-- ---- the body without the delimiter

module _ (d a : List ℕ) (h : ends_with d a ≡ true) where
  pub not_shorter : length d ≤ length a
  unfolding ends_with
  not_shorter = by_bool (ltb (length a) (length d))
      (λ e. no_yes (rw e at h))
      (λ e. ltb-false _ _ e)

  delim_last : drop (length a - length d) a ≡ d
  unfolding ends_with
  delim_last =
      let n : ℕ = length a - length d in
      by_bool (ltb (length a) (length d))
      (λ e. no_yes (rw e at h))
      (λ e. let g : length d ≤ length a = ltb-false (length a) (length d) e in
      let k : length d ≡ length (drop n a) = omega (arith, length-drop n a) in
      sym (same_is d (drop n a) (same-begins d (drop n a) k ∙ (rw e at h))))

  body_front : take (length a - length d) a ++ d ≡ a
  body_front = subst (λ (l : List ℕ). take (length a - length d) a ++ l ≡ a) delim_last (take-append-drop (length a - length d) a)

body_texty : (u : List ℕ) → Scalars u → ends_with (line_of (bytes_of u)) (after_line (bytes_of u)) ≡ true
    → Texty (take (length (after_line (bytes_of u)) - length (line_of (bytes_of u))) (after_line (bytes_of u)))
body_texty u h e =
    let d : List ℕ = line_of (bytes_of u) in
    let a : List ℕ = after_line (bytes_of u) in
    let x : Texty d = line_texty u h in
    let y : Texty a = after_texty u h in
    whole_front y.0 y.1.1 (take (length a - length d) a) x.0
    (sym y.1.0 ∙ (sym (body_front d a e) ∙ ap (λ (l : List ℕ). take (length a - length d) a ++ l) x.1.0))

-- ---- where it lies in the item

drop_suffix : (k : ℕ) (l : List ℕ) → drop (length l - length (drop k l)) l ≡ drop k l
drop_suffix k l = by_bool (leb k (length l))
    (λ e. let g : k ≤ length l = leb-true k (length l) e in
    let f : length l - length (drop k l) ≡ k = omega (arith, length-drop k l) in rw f)
    (λ e. let g : length l < k = leb-false k (length l) e in
    let f : drop k l ≡ [] = drop_of_length-le l {i = k} (omega arith) in
    rw f (drop_of_length-le l {i = length l - 0} (omega arith)))

pub here_body_lem : (u raw : List ℕ) → Scalars u → raw ≡ codes "#<<" ++ bytes_of u → here_ends raw ≡ true
    → Texty (take (length (after_line (here_inside raw)) - length (line_of (here_inside raw))) (drop (length raw - length (after_line (here_inside raw))) raw))
unfolding here_ends
here_body_lem u raw h e g =
    let l : List ℕ = here_inside raw in
    let q : l ≡ bytes_of u = ap (drop 3) e in
    let m : ℕ = before (code "\n") l + 1 in
    let a : after_line l ≡ drop (3 + m) raw = drop-drop m 3 raw in
    let b : drop (length raw - length (after_line l)) raw ≡ after_line l = ap (λ (x : List ℕ). drop (length raw - length x) raw) a ∙ (drop_suffix (3 + m) raw ∙ sym a) in
    subst (λ (x : List ℕ). Texty (take (length (after_line l) - length (line_of l)) x)) (sym b)
    (subst (λ (x : List ℕ). Texty (take (length (after_line x) - length (line_of x)) (after_line x))) (sym q)
    (body_texty u h (subst (λ (x : List ℕ). ends_with (line_of x) (after_line x) ≡ true) q g)))
