-- Comments: a line comment goes to its newline; in a nested comment only the marks #| and |# count, each taken from the left.
use Prim.Native.Nat.{ℕ, zero, suc, ◌-◌}
use mathlib.Core.Path.{◌≡◌, refl, ap, ◌∙◌}
use mathlib.Core.Bool.{Bool, true, false}
use mathlib.Core.List.{List, [], ◌∷◌, ◌++◌, append_assoc}
use lib.Dec.{eqb}
use native.Mathlib.Omega.{arith}
use native.Mathlib.Numerals.{add-one}
use borrow.Author.Tests.{lt-leb, eqb-true}
use Rattle.laws.specs.Quoted.{codes, code}
use Rattle.laws.proofs.Choice.{by_bool}
use Rattle.chars.specs.Blank.{is_blank}
use Rattle.items.specs.declared.Outcome.TheVariants.{Token}
use Rattle.items.specs.Classes.{first_of, in_nest, after_hash, InNest, bar, sharp, inside}
use Rattle.items.specs.Readers.{so_far, eat, got, comment, read_line, read_nest, after_bar, after_sharp, read_hash, read_item, SoFar, Read}
use Rattle.items.specs.Kinds as kind
use Rattle.items_r7rs.specs.Comment.{InLine, mark, unmarked, LineComment, line, LineEnd, at_end_case, newline, return_newline, NestedRest, closes, continues, NestedComment, nested}
use Rattle.items_r7rs.specs.Reading.{nothing, ReadAs}
use Rattle.items_r7rs.specs.Repeated.{Many, done, more}
use Rattle.items_r7rs.proofs.Classes.{not_first}
use Rattle.items_r7rs.proofs.Reading.{eats, eats_append, eats-whole, got-whole, read_token}

-- ---- line comments

line_on : (i : SoFar) (cs : List ℕ) {t : List ℕ} → Many InLine t → read_line i (t ++ cs) ≡ read_line (eats i t) cs
unfolding read_line
line_on i cs done = refl
line_on i cs (more {c = c} h m) = rw (not_first (code "\n") (codes "\r") c h, read_line) (line_on (eat i c) cs m)

line_ends : (i : SoFar) {e cs : List ℕ} → LineEnd e cs → read_line i (e ++ cs) ≡ got comment (eats i e) cs
unfolding read_line
line_ends i at_end_case = refl
line_ends i newline = refl
line_ends i return_newline = refl

pub line_comment : (report : Bool) {t e : List ℕ} (cs : List ℕ) → LineComment t → LineEnd e cs → ReadAs report (t ++ e) cs kind.Comment 0 nothing
unfolding is_blank read_item first_of
line_comment report {e = e} cs (line {t = t} m) h =
    read_token report (code ";") (t ++ e) cs kind.Comment 0 refl refl
    (λ at. rw (append_assoc t e cs) (line_on _ (e ++ cs) m ∙ (line_ends _ h ∙ rw (← eats_append _ t e, eats-whole at (code ";" ∷ t ++ e)))))

-- ---- nested comments

-- where reading goes on after a character of this class, so many #| deep
abbrev after : InNest → ℕ → SoFar → List ℕ → Read
after bar depth i cs = after_bar depth i cs
after sharp depth i cs = after_sharp depth i cs
after inside depth i cs = read_nest depth i cs

module _ {P : Type 0} where
  by_nest : (x : InNest) → (x ≡ bar → P) → (x ≡ sharp → P) → (x ≡ inside → P) → P
  by_nest bar f g h = f refl
  by_nest sharp f g h = g refl
  by_nest inside f g h = h refl

pub is_bar : (c : ℕ) → in_nest c ≡ bar → c ≡ code "|"
unfolding in_nest
is_bar c h = by_bool (eqb c (code "|")) (λ e. eqb-true c _ e) (λ e. by_bool (eqb c (code "#")) (λ f. let z = rw (e, f) at h in cc) (λ f. let z = rw (e, f) at h in cc))

pub is_sharp : (c : ℕ) → in_nest c ≡ sharp → c ≡ code "#"
unfolding in_nest
is_sharp c h = by_bool (eqb c (code "|")) (λ e. let z = rw e at h in cc) (λ e. by_bool (eqb c (code "#")) (λ f. eqb-true c _ f) (λ f. let z = rw (e, f) at h in cc))

-- a character that makes no mark with the one before it
module _ (b c depth : ℕ) (i : SoFar) (cs : List ℕ) (h : mark b c ≡ false) where
  nest_step : after (in_nest b) depth i (c ∷ cs) ≡ after (in_nest c) depth (eat i c) cs
  unfolding read_nest
  nest_step =
      by_nest (in_nest b)
      (λ e. by_nest (in_nest c)
      (λ f. rw (e, f) (rw (f, after_bar)))
      (λ f. let z = rw (is_bar b e, is_sharp c f) at h in cc)
      (λ f. rw (e, f) (rw (f, after_bar))))
      (λ e. by_nest (in_nest c)
      (λ f. let z = rw (is_sharp b e, is_bar c f) at h in cc)
      (λ f. rw (e, f) (rw (f, after_sharp)))
      (λ f. rw (e, f) (rw (f, after_sharp))))
      (λ e. by_nest (in_nest c)
      (λ f. rw (e, f) (rw (f, read_nest)))
      (λ f. rw (e, f) (rw (f, read_nest)))
      (λ f. rw (e, f) (rw (f, read_nest))))

nest_text : (b : ℕ) (t : List ℕ) (depth : ℕ) (i : SoFar) (cs : List ℕ) (c : ℕ) → unmarked b (t ++ (c ∷ [])) ≡ true
    → after (in_nest b) depth i (t ++ (c ∷ cs)) ≡ after (in_nest c) depth (eats i (t ++ (c ∷ []))) cs
nest_text b [] depth i cs c h =
    by_bool (mark b c) (λ e. let z = rw e at h in cc) (λ e. nest_step b c depth i cs e)
nest_text b (x ∷ t) depth i cs c h =
    by_bool (mark b x)
    (λ e. let z = rw e at h in cc)
    (λ e. nest_step b x depth i (t ++ (c ∷ cs)) e ∙ nest_text x t depth (eat i x) cs c (rw e at h))

-- what follows a comment that was so many #| deep in another
abbrev closing : ℕ → SoFar → List ℕ → Read
closing zero i cs = got comment i cs
closing (suc outer) i cs = read_nest (suc outer) i cs

close_mark : (outer : ℕ) (i : SoFar) (cs : List ℕ) → after_bar (suc outer) i (code "#" ∷ cs) ≡ closing outer (eat i (code "#")) cs
unfolding read_nest in_nest
close_mark zero i cs = refl
close_mark (suc outer) i cs =
    let e : suc (suc outer) - 1 ≡ suc outer = omega arith in
    rw (lt-leb (suc (suc outer)) 1 (omega arith), after_bar) (rw e)

open_mark_lem : (depth : ℕ) (i : SoFar) (cs : List ℕ) → after_sharp depth i (code "|" ∷ cs) ≡ read_nest (suc depth) (eat i (code "|")) cs
unfolding read_nest in_nest
open_mark_lem depth i cs = ap (λ n. read_nest n (eat i (code "|")) cs) (add-one depth)

nest_rest : (outer : ℕ) (i : SoFar) (cs : List ℕ) {t : List ℕ} → NestedRest t → read_nest (suc outer) i (t ++ cs) ≡ closing outer (eats i t) cs
unfolding read_nest in_nest
nest_rest outer i cs (closes t h) =
    rw (append_assoc t (codes "|#") cs)
    (nest_text (code " ") t (suc outer) i (code "#" ∷ cs) (code "|") h
    ∙ (close_mark outer (eats i (t ++ codes "|")) cs ∙ rw (eats_append i t (codes "|#"), eats_append i t (codes "|"))))
nest_rest outer i cs (continues t inner later h n r) =
    let j : SoFar = eats i (t ++ codes "#") in
    let k : SoFar = eat j (code "|") in
    rw (append_assoc t (codes "#|" ++ (inner ++ later)) cs, append_assoc inner later cs)
    (nest_text (code " ") t (suc outer) i (code "|" ∷ (inner ++ (later ++ cs))) (code "#") h
    ∙ (open_mark_lem (suc outer) j (inner ++ (later ++ cs))
    ∙ (nest_rest (suc outer) k (later ++ cs) n
    ∙ (nest_rest outer (eats k inner) cs r
    ∙ rw (eats_append i t (codes "#|" ++ (inner ++ later)), eats_append i t (codes "#"), eats_append (eats (eats i t) (codes "#|")) inner later)))))

pub nested_comment : (report : Bool) {t : List ℕ} (cs : List ℕ) → NestedComment t → ReadAs report t cs kind.Comment 0 nothing
unfolding is_blank read_item first_of read_hash after_hash
nested_comment report cs (nested {t = t} r) =
    read_token report _ _ cs kind.Comment 0 refl refl
    (λ at. nest_rest 0 (eats (so_far [] at) (codes "#|")) cs r ∙ got-whole comment at (codes "#|" ++ t) cs)

-- ---- datum comments

pub datum_comment : (report : Bool) (cs : List ℕ) → ReadAs report (codes "#;") cs kind.DatumComment 0 nothing
unfolding is_blank read_item first_of read_hash after_hash
datum_comment report cs = read_token report _ _ cs kind.DatumComment 0 refl refl (λ at. got-whole (Token kind.DatumComment 0) at (codes "#;") cs)
