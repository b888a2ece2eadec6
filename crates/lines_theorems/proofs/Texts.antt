-- An item's text in the source starts and ends between two characters. It is the extent; or it starts after a byte of ASCII, a plus, a
-- quote or a newline, and ends before one; or it ends where a here-string's delimiter stands, which starts with a character.
use Rattle.std.proofs.Common.{Ok, Err, Result}
use Prim.Native.Nat.{ℕ, suc, ◌+◌, ◌-◌, ◌≤◌, ◌<◌}
use mathlib.Core.Path.{◌≡◌, sym, subst, ◌∙◌}
use mathlib.Core.Bool.{Bool, true, false, ◌&&◌}
use mathlib.Core.List.{List, [], ◌∷◌}
use mathlib.Core.Logic.{◌⊎◌, inl, inr}
use lib.ListN.{length, get_or, take, drop, length-drop}
use lib.Seq.{get_or-drop}
use lib.Dec.{eqb, ltb}
use native.Mathlib.Omega.{arith}
use borrow.Author.Tests.{eqb-true, ltb-true, ltb-false}
use Rattle.laws.specs.Quoted.{code}
use Rattle.laws.specs.Texts.{span, before, begins}
use Rattle.laws.proofs.Choice.{by_bool, if_all, if_is, and_true, impossible}
use Rattle.numbers.specs.Grammar.{parse_number, Parsed}
use Rattle.numbers.specs.declared.ParseError.TheVariants as parsed
use Rattle.items.specs.declared.Quotes.TheVariants.{Lines}
use Rattle.items.specs.declared.Outcome.{Outcome}
use Rattle.items.specs.declared.Outcome.TheVariants.{Token, Str, HereStr, Word, Run, Lined, Keyword, Character, Error, ErrorAt}
use Rattle.items.specs.declared.CharError.{CharError}
use Rattle.items.specs.declared.CharError.TheVariants.{Wrong, WrongAt}
use Rattle.items.specs.Kinds as kind
use Rattle.items.specs.Meaning.{Text, none, source, decoded, Meaning, word_kind, word_means, run_means, escaped, unescape, string_text, lined_text, here_text}
use Rattle.items.specs.Meaning.{character_of, char_inside, character_means, meaning_of}
use Rattle.items.specs.Readers.{first_is, unreturned, line_of, after_line, ends_with, here_inside, here_ends}
use Rattle.items.proofs.Every.{Every}
use Rattle.items.proofs.Fine.{Between, Fine}
use Rattle.lines.proofs.Tests.{by_less}
use Rattle.lines_theorems.proofs.Bytes.{Starts, Placed, Fresh, Tidy, placed_at, tidy_take, tidy_drop, fresh_take, fresh_after, fresh_at}
use Rattle.lines_theorems.proofs.Outcomes.{Third, Known}

-- ---- a here-string's lines

-- without carriage returns, which are ASCII, bytes still start with a character
fresh_unreturned : (l : List ℕ) → Tidy l → Fresh l → Fresh (unreturned l)
unfolding unreturned
fresh_unreturned [] t f = tt
fresh_unreturned (c ∷ l) t f =
    by_bool (eqb c (code "\r"))
    (λ e. let z : c < 0x80 = omega (arith, eqb-true c (code "\r") e) in rw e (fresh_unreturned l t.1 (t.0 z)))
    (λ e. rw e f)

-- where a byte stands, it is that byte
stands : (b : ℕ) (l : List ℕ) → before b l < length l → get_or l (before b l) 0 ≡ b
unfolding span
stands b [] h = absurd (omega arith)
stands b (c ∷ l) h =
    by_bool (eqb c b)
    (λ e. rw e (eqb-true c b e))
    (λ e. rw e (stands b l (let g = rw e at h in omega arith)))

-- what begins a text has its first byte
begins_first : (d l : List ℕ) → 0 < length d → begins d l ≡ true → get_or l 0 0 ≡ get_or d 0 0
unfolding begins
begins_first [] l h e = absurd (omega arith)
begins_first (x ∷ d) [] h e = impossible cc
begins_first (x ∷ d) (y ∷ l) h e = sym (eqb-true x y (and_true (eqb x y) (begins d l) e).0)

-- a text ends with what it ends with
ends_with_lem : (d body : List ℕ) → ends_with d body ≡ true → (length d ≤ length body) × (begins d (drop (length body - length d) body) ≡ true)
unfolding ends_with
ends_with_lem d body =
    by_bool (ltb (length body) (length d))
    (λ e h. let z : false ≡ true = rw e at h in impossible cc)
    (λ e h. (ltb-false (length body) (length d) e, rw e at h))

-- ---- an item from s to e with the bytes raw

module _ (M : ℕ → Type 0) where
  -- M holds at both ends of a text in the source
  abbrev pub InSource : Text → Type 0
  InSource none = Unit {0}
  InSource (source a b) = M a × M b
  InSource (decoded bs) = Unit {0}

  module _ (s e : ℕ) (raw : List ℕ) (long : e ≡ s + length raw) (starts : M s) (ends : M e) (placed : Placed M s raw) (tidy : Tidy raw) where
    -- where a byte starts a character
    pub at_byte : (n : ℕ) → n < length raw → Starts (get_or raw n 0) → M (s + n)
    at_byte n h g = placed_at M n s raw h placed g

    -- past a byte of ASCII
    pub past_byte : (n : ℕ) → n < length raw → get_or raw n 0 < 0x80 → M (s + suc n)
    past_byte n h g =
        by_less (suc n) (length raw)
        (λ k. at_byte (suc n) k (fresh_at (suc n) raw k (fresh_after n raw h tidy g)))
        (λ k. let z : e ≡ s + suc n = omega arith in subst M z ends)

    -- between two quotes
    between : (b : ℕ) → b < 0x80 → get_or raw 0 0 < 0x80 → Between b raw → M (s + 1) × M (e - 1)
    between b l g h =
        let last : get_or raw (length raw - 1) 0 ≡ b = eqb-true _ b h.1 in
        let z : s + (length raw - 1) ≡ e - 1 = omega (arith, h.0) in
        (past_byte 0 (omega (arith, h.0)) g, subst M z (at_byte (length raw - 1) (omega (arith, h.0)) (inl (omega (arith, last)))))

    string_text_lem : get_or raw 0 0 < 0x80 → Between (code "\"") raw → InSource (string_text s e raw)
    unfolding string_text
    string_text_lem g h = if_all InSource (escaped raw) tt (between (code "\"") (omega arith) g h)

    lined_text_lem : get_or raw 0 0 < 0x80 → Between (code "|") raw → InSource (lined_text s e raw)
    unfolding lined_text
    lined_text_lem g h = if_all InSource (escaped raw && ltb 0 (length (unescape Lines (drop 1 raw)))) tt (between (code "|") (omega arith) g h)

    -- the body starts after the newline of the delimiter's line
    body_start : M (e - length (after_line (here_inside raw)))
    body_start =
        let l : List ℕ = here_inside raw in
        let n : ℕ = before (code "\n") l in
        let inside : length l ≡ length raw - 3 = length-drop 3 raw in
        let body : length (after_line l) ≡ length l - (n + 1) = length-drop (n + 1) l in
        by_less n (length l)
        (λ h.
        let byte : get_or raw (3 + n) 0 ≡ code "\n" = sym (get_or-drop 3 raw n 0) ∙ stands (code "\n") l h in
        let z : s + suc (3 + n) ≡ e - length (after_line l) = omega (arith, body, inside) in
        subst M z (past_byte (3 + n) (omega (arith, inside)) (omega (arith, byte))))
        (λ h. let z : e ≡ e - length (after_line l) = omega (arith, body) in subst M z ends)

    -- the body's last bytes are the delimiter
    body_end : Third raw → here_ends raw ≡ true → M (e - length (line_of (here_inside raw)))
    unfolding here_ends
    body_end t h =
        let l : List ℕ = here_inside raw in
        let n : ℕ = before (code "\n") l in
        let d : List ℕ = line_of l in
        let b : List ℕ = after_line l in
        let inside : length l ≡ length raw - 3 = length-drop 3 raw in
        let body : length b ≡ length l - (n + 1) = length-drop (n + 1) l in
        let w = ends_with_lem d b h in
        by_less 0 (length d)
        (λ k.
        let m : ℕ = length b - length d in
        let fresh : Fresh l = fresh_after 2 raw t.0 tidy t.1 in
        let new : Fresh d = fresh_unreturned (take n l) (tidy_take n l (tidy_drop 3 raw tidy)) (fresh_take n l fresh) in
        let byte : get_or raw (3 + (n + 1 + (m + 0))) 0 ≡ get_or d 0 0 =
        sym (get_or-drop 3 raw (n + 1 + (m + 0)) 0) ∙ sym (get_or-drop (n + 1) l (m + 0) 0) ∙ sym (get_or-drop m b 0 0) ∙ begins_first d (drop m b) k w.1 in
        let z : s + (3 + (n + 1 + (m + 0))) ≡ e - length d = omega (arith, body, inside, w.0) in
        subst M z (at_byte (3 + (n + 1 + (m + 0))) (omega (arith, body, inside, w.0)) (subst Starts (sym byte) (fresh_at 0 d k new))))
        (λ k. let z : e ≡ e - length d = omega arith in subst M z ends)

    here_text_lem : Third raw → here_ends raw ≡ true → InSource (here_text s e raw)
    unfolding here_text
    here_text_lem t h = (body_start, body_end t h)

    -- ---- every outcome

    abbrev pub Meant : Meaning → Type 0
    Meant m = InSource m.text

    word_texts : Every Meant (word_means s e raw)
    unfolding word_means
    word_texts =
        let P : List Meaning → Type 0 = Every Meant in
        if_all P (eqb (word_kind raw) kind.Identifier)
        (if_is P (first_is (code "+") raw && ltb 1 (length raw))
        (λ f.
        let v = and_true (first_is (code "+") raw) (ltb 1 (length raw)) f in
        let plus : get_or raw 0 0 ≡ code "+" = eqb-true _ (code "+") v.0 in
        let second : M (s + 1) = past_byte 0 (omega (arith, ltb-true 1 (length raw) v.1)) (omega (arith, plus)) in
        ((starts, second), ((second, ends), tt)))
        (λ f. ((starts, ends), tt)))
        (tt, tt)

    run_texts : (p : Parsed) → Every Meant (run_means p s e raw)
    unfolding run_means
    run_texts (Ok p) = (tt, tt)
    run_texts (Err parsed.NoNumber) = word_texts
    run_texts (Err parsed.ZeroDenominator) = (tt, tt)

    character_texts : (v : Result ℕ CharError) → Every Meant (character_means v)
    character_texts (Ok c) = (tt, tt)
    character_texts (Err (Wrong n d)) = (tt, tt)
    character_texts (Err (WrongAt n d p)) = (tt, tt)

    -- only a word may start past ASCII
    low_first : (o : Outcome) → (o ≡ Word → ⊥) → (get_or raw 0 0 < 0x80) ⊎ (o ≡ Word) → get_or raw 0 0 < 0x80
    low_first o other (inl h) = h
    low_first o other (inr w) = absurd (other w)

    pub meaning_texts : (report : Bool) (n : ℕ) (o : Outcome) → (get_or raw 0 0 < 0x80) ⊎ (o ≡ Word) → Fine (λ _. Unit {0}) n raw o → Known M report raw o
        → Every Meant (meaning_of report o s e raw)
    meaning_texts report n (Token k d) f h g = (tt, tt)
    meaning_texts report n Str f h g = (string_text_lem (low_first Str (λ z. impossible cc) f) h, tt)
    meaning_texts report n HereStr f h g = (here_text_lem g h, tt)
    meaning_texts report n Word f h g = word_texts
    meaning_texts report n Run f h g = run_texts (parse_number raw)
    meaning_texts report n Lined f h g = (lined_text_lem (low_first Lined (λ z. impossible cc) f) h, tt)
    meaning_texts report n Keyword f h g = ((starts, ends), tt)
    meaning_texts report n Character f h g = character_texts (character_of report (char_inside raw))
    meaning_texts report n (Error k d) f h g = (tt, tt)
    meaning_texts report n (ErrorAt k d a b) f h g = (tt, tt)
