-- An extent's bytes fix the place: two places of which specs/First says that an item of error 11 points there are one, and so are the details.
-- Where the digits stand is told by the first bytes or by the last backslash; where they fail, by the digit reader, which stops there too.
use Prim.Native.Nat.{ℕ, suc, ◌+◌, ◌*◌, ◌^◌, ◌≤◌, ◌<◌}
use mathlib.Core.Path.{◌≡◌, refl, sym, ap, subst, ◌∙◌}
use mathlib.Core.Bool.{Bool, true, false, ◌&&◌}
use mathlib.Core.List.{List, [], ◌∷◌, ◌++◌, append-nil}
use mathlib.Core.Logic.{◌⊎◌, inl, inr}
use lib.ListN.{length, drop, length-append, length-drop}
use lib.Seq.{drop-append_seam, drop-drop}
use lib.Dec.{eqb, ltb}
use native.Mathlib.Omega.{arith}
use borrow.Author.Tests.{lt-ltb, ltb-true, ltb-false, eqb-true, ne_eqb}
use Rattle.laws.specs.Quoted.{code, codes, one_of, within}
use Rattle.laws.specs.Texts.{starts, begins}
use Rattle.laws.proofs.Choice.{by_bool, no_yes}
use Rattle.chars.specs.Encode.{utf8, width, is_scalar}
use Rattle.chars.proofs.Round.{back, one_read}
use Rattle.chars.proofs.Width.{width-utf8, wide}
use Rattle.digits.specs.Digits.{digit_of, value}
use Rattle.digits.proofs.HexDigits.{same_wrong}
use Rattle.digits.specs.Hex.{hex_digits, hex_after_plus, hex_value, empty, bad_digit, overflow, Hex, wrong}
use Rattle.items.specs.Readers.{past_failing}
use Rattle.items.proofs.Every.{Every, every_append}
use Rattle.items_coverage.proofs.Bytes.{Spelt, low, high, spelt}
use Rattle.items_errors.specs.Failing.{IsDigit}
use Rattle.items_errors.specs.First.{OfCharacter, OfEscape, Inner, Stand, character, escape, plus, FailAt, none, bad, over, FirstFails}
use Rattle.items_errors.proofs.Digits.{digit_small}

-- ---- the digit reader stops where the digits fail

plus_bad : IsDigit (code "+") → ⊥
unfolding digit_of within
plus_bad h = omega arith

value_grows : (n : ℕ) (s : List ℕ) → n ≤ value 16 n s
unfolding value
value_grows n [] = omega arith
value_grows n (c ∷ s) = omega (arith, value_grows (n * 16 + digit_of c) s)

-- past digits whose value fits
past_digits : (good t : List ℕ) (k v : ℕ) → Every IsDigit good → value 16 v good < 2 ^ 32
    → hex_digits k v (good ++ t) ≡ hex_digits (k + length good) (value 16 v good) t
unfolding hex_digits value
past_digits [] t k v h f = let z : k ≡ k + 0 = omega arith in ap (λ (n : ℕ). hex_digits n v t) z
past_digits (c ∷ good) t k v h f =
    let n : ℕ = v * 16 + digit_of c in
    let small : n < 2 ^ 32 = omega (arith, value_grows n good) in
    let z : k + 1 + length good ≡ k + length (c ∷ good) = omega arith in
    rw (lt-ltb (digit_of c) 16 h.0, lt-ltb n (2 ^ 32) small, hex_digits)
    (past_digits good t (k + 1) n h.1 f ∙ ap (λ (m : ℕ). hex_digits m (value 16 n good) t) z)

not_digit : (x : ℕ) → (IsDigit x → ⊥) → ltb (digit_of x) 16 ≡ false
not_digit x n = by_bool (ltb (digit_of x) 16) (λ e. absurd (n (ltb-true (digit_of x) 16 e))) (λ e. e)

bad_here : (c : ℕ) (after : List ℕ) (k v : ℕ) → 16 ≤ digit_of c → hex_digits k v (utf8 c ++ after) ≡ wrong bad_digit k
unfolding hex_digits
bad_here c after k v w = go (utf8 c) (spelt c)
  where
    go : (u : List ℕ) → Spelt c u → hex_digits k v (u ++ after) ≡ wrong bad_digit k
    go u (low h) = rw (not_digit c (λ d. omega arith), hex_digits)
    go u (high x y g h) = rw (not_digit x (λ d. omega (arith, digit_small x d, h.0)), hex_digits)

over_here : (c : ℕ) (after : List ℕ) (k v : ℕ) → IsDigit c → 2 ^ 32 ≤ v * 16 + digit_of c → hex_digits k v (c ∷ after) ≡ wrong overflow k
unfolding hex_digits
over_here c after k v d l =
    let large : ltb (v * 16 + digit_of c) (2 ^ 32) ≡ false = by_bool (ltb (v * 16 + digit_of c) (2 ^ 32)) (λ e. absurd (omega (arith, ltb-true (v * 16 + digit_of c) (2 ^ 32) e))) (λ e. e) in
    rw (lt-ltb (digit_of c) 16 d, large, hex_digits)

value_last : (good : List ℕ) (c v : ℕ) → value 16 v (good ++ (c ∷ [])) ≡ value 16 v good * 16 + digit_of c
unfolding value
value_last [] c v = refl
value_last (x ∷ good) c v = value_last good c (v * 16 + digit_of x)

-- what the digit reader reads of digits: behind the plus that is taken, or a lone plus
read_digits : (ds : List ℕ) → 0 < length ds → (hex_value ds ≡ hex_digits (plus ds) 0 (drop (plus ds) ds)) ⊎ (ds ≡ codes "+")
unfolding hex_value hex_after_plus plus starts
read_digits [] h = absurd (omega arith)
read_digits (b ∷ []) h = by_bool (eqb b (code "+"))
    (λ e. inr (ap (λ (n : ℕ). n ∷ []) (eqb-true b (code "+") e)))
    (λ e. inl (rw e))
read_digits (b ∷ c ∷ s) h = by_bool (eqb b (code "+"))
    (λ e. inl (rw (e, lt-ltb 1 (length (b ∷ c ∷ s)) (omega arith))))
    (λ e. inl (rw e))

lone_plus : hex_value (codes "+") ≡ wrong bad_digit 0
unfolding hex_value hex_after_plus
lone_plus = refl

-- what a failing place says of the digit reader: its answer, and where the failing character ends
record Read (ds : List ℕ) (d p q : ℕ) : Type 0 where
  answer : hex_value ds ≡ wrong d p
  past : q ≡ past_failing d p (drop p ds)

-- some digits, then what fails, are no lone plus
no_plus : (good : List ℕ) (c : ℕ) (after : List ℕ) → Every IsDigit good → IsDigit c → good ++ (c ∷ after) ≡ codes "+" → ⊥
no_plus [] c after h d e = let z : c ≡ code "+" = cc in plus_bad (subst IsDigit z d)
no_plus (g ∷ good) c after h d e = let z : g ≡ code "+" = cc in plus_bad (subst IsDigit z h.0)

plus_alone : plus (codes "+") ≡ 0
unfolding plus starts
plus_alone = refl

-- before a character, a lone plus has no digits
no_good : (good t : List ℕ) → Every IsDigit good → good ++ t ≡ codes "+" → good ≡ []
no_good [] t h e = refl
no_good (g ∷ good) t h e = let z : g ≡ code "+" = cc in absurd (plus_bad (subst IsDigit z h.0))

-- behind the plus and the digits
behind : (ds good t : List ℕ) → drop (plus ds) ds ≡ good ++ t → drop (plus ds + length good) ds ≡ t
behind ds good t e =
    sym (drop-drop (length good) (plus ds) ds) ∙ ap (drop (length good)) e ∙ drop-append_seam good t

some_left : (ds t : List ℕ) (n : ℕ) → drop n ds ≡ t → 0 < length t → 0 < length ds
some_left [] [] n e h = absurd (omega arith)
some_left [] (x ∷ t) n e h = absurd (omega (arith, ap length e, length-drop {A = ℕ} n []))
some_left (b ∷ ds) t n e h = omega arith

read_failing : (ds : List ℕ) (d p q : ℕ) → FailAt ds d p q → Read ds d p q
unfolding hex_value past_failing
read_failing ds d p q (none e) = record { answer = ap hex_value e; past = refl }
read_failing ds d p q (bad good c after is digits fits scalar past-digits) =
    let t : List ℕ = utf8 c ++ after in
    let left : drop (plus ds + length good) ds ≡ t = behind ds good t is in
    let wide-t : 0 < length (good ++ t) = omega (arith, length-append good t, length-append (utf8 c) after, width-utf8 c, wide c) in
    record {
      answer = by_reader (read_digits ds (some_left ds (good ++ t) (plus ds) is wide-t));
      past = sym (ap (past_failing bad_digit (plus ds + length good)) left ∙ (rw (back c after scalar)));
    }
  where
    by_reader : (hex_value ds ≡ hex_digits (plus ds) 0 (drop (plus ds) ds)) ⊎ (ds ≡ codes "+") → hex_value ds ≡ wrong bad_digit (plus ds + length good)
    by_reader (inl e) =
        e ∙ ap (hex_digits (plus ds) 0) is ∙ past_digits good (utf8 c ++ after) (plus ds) 0 digits fits
        ∙ bad_here c after (plus ds + length good) (value 16 0 good) past-digits
    by_reader (inr e) =
        let z : plus ds ≡ 0 = ap plus e ∙ plus_alone in
        let g : good ≡ [] = no_good good (utf8 c ++ after) digits (sym is ∙ ap (λ (n : ℕ). drop n ds) z ∙ e) in
        let n : 0 ≡ plus ds + length good = omega (arith, z, ap length g) in
        ap hex_value e ∙ lone_plus ∙ ap (wrong bad_digit) n
read_failing ds d p q (over good c after is digits fits digit large) =
    let t : List ℕ = c ∷ after in
    let left : drop (plus ds + length good) ds ≡ t = behind ds good t is in
    let some : 0 < length (good ++ t) = omega (arith, length-append good t) in
    record {
      answer = by_reader (read_digits ds (some_left ds (good ++ t) (plus ds) is some));
      past = sym (ap (past_failing overflow (plus ds + length good)) left ∙ (rw (one_read c after (digit_small c digit))));
    }
  where
    by_reader : (hex_value ds ≡ hex_digits (plus ds) 0 (drop (plus ds) ds)) ⊎ (ds ≡ codes "+") → hex_value ds ≡ wrong overflow (plus ds + length good)
    by_reader (inl e) =
        e ∙ ap (hex_digits (plus ds) 0) is ∙ past_digits good (c ∷ after) (plus ds) 0 digits fits
        ∙ over_here c after (plus ds + length good) (value 16 0 good) digit (omega (arith, large, value_last good c 0))
    by_reader (inr e) =
        let z : plus ds ≡ 0 = ap plus e ∙ plus_alone in
        absurd (no_plus good c after digits digit (sym is ∙ ap (λ (n : ℕ). drop n ds) z ∙ e))

-- ---- one place for the digits

same_end : (t u : List ℕ) (x : ℕ) → t ++ (x ∷ []) ≡ u ++ (x ∷ []) → t ≡ u
same_end [] [] x e = refl
same_end [] (y ∷ u) x e = absurd (omega (arith, ap length e, length-append u (x ∷ [])))
same_end (y ∷ t) [] x e = absurd (omega (arith, ap length e, length-append t (x ∷ [])))
same_end (y ∷ t) (z ∷ u) x e =
    let a : y ≡ z = cc in
    let b : t ++ (x ∷ []) ≡ u ++ (x ∷ []) = cc in
    ap (λ (n : ℕ). n ∷ t) a ∙ ap (λ (l : List ℕ). z ∷ l) (same_end t u x b)

abbrev NoBack : ℕ → Type 0
NoBack c = (c ≡ code "\\" → ⊥)

has_back : (v s : List ℕ) → Every NoBack (v ++ (code "\\" ∷ s)) → ⊥
has_back [] s h = h.0 refl
has_back (y ∷ v) s h = has_back v s h.1

-- what stands behind the last backslash
last_back : (u v t s : List ℕ) → Every NoBack t → Every NoBack s → u ++ (code "\\" ∷ t) ≡ v ++ (code "\\" ∷ s) → (t ≡ s) × (length u ≡ length v)
last_back [] [] t s h g e = let z : t ≡ s = cc in (z, refl)
last_back [] (y ∷ v) t s h g e = let z : t ≡ v ++ (code "\\" ∷ s) = cc in absurd (has_back v s (subst (Every NoBack) z h))
last_back (x ∷ u) [] t s h g e = let z : u ++ (code "\\" ∷ t) ≡ s = cc in absurd (has_back u t (subst (Every NoBack) (sym z) g))
last_back (x ∷ u) (y ∷ v) t s h g e =
    let z : u ++ (code "\\" ∷ t) ≡ v ++ (code "\\" ∷ s) = cc in
    let r = last_back u v t s h g z in
    (r.0, omega (arith, r.1))

-- two texts of digits, and how many bytes stand before them, are one
abbrev Same : List ℕ → List ℕ → ℕ → ℕ → Type 0
Same ds es n m = (ds ≡ es) × (n ≡ m)

no_end : (ds es : List ℕ) → ds ++ [] ≡ es ++ [] → ds ≡ es
no_end ds es e = sym (append-nil ds) ∙ e ∙ append-nil es

of_character : (ds es o p c d : List ℕ) → OfCharacter ds o c → OfCharacter es p d → o ++ (ds ++ c) ≡ p ++ (es ++ d) → Same ds es (length o) (length p)
unfolding starts
of_character ds es o p c d OfCharacter.x OfCharacter.x e = let z : ds ++ [] ≡ es ++ [] = cc in (no_end ds es z, refl)
of_character ds es o p c d OfCharacter.x (OfCharacter.u h) e = let z : code "x" ≡ code "u" = cc in absurd (omega arith)
of_character ds es o p c d OfCharacter.x OfCharacter.brace e = let z : code "x" ≡ code "u" = cc in absurd (omega arith)
of_character ds es o p c d (OfCharacter.u h) OfCharacter.x e = let z : code "u" ≡ code "x" = cc in absurd (omega arith)
of_character ds es o p c d (OfCharacter.u h) (OfCharacter.u g) e = let z : ds ++ [] ≡ es ++ [] = cc in (no_end ds es z, refl)
of_character ds es o p c d (OfCharacter.u h) OfCharacter.brace e =
    let z : ds ++ [] ≡ code "{" ∷ (es ++ codes "}") = cc in
    no_yes (sym h ∙ ap (starts (code "{")) (sym (append-nil ds) ∙ z))
of_character ds es o p c d OfCharacter.brace OfCharacter.x e = let z : code "u" ≡ code "x" = cc in absurd (omega arith)
of_character ds es o p c d OfCharacter.brace (OfCharacter.u h) e =
    let z : code "{" ∷ (ds ++ codes "}") ≡ es ++ [] = cc in
    no_yes (sym h ∙ ap (starts (code "{")) (sym (append-nil es) ∙ sym z))
of_character ds es o p c d OfCharacter.brace OfCharacter.brace e = let z : ds ++ codes "}" ≡ es ++ codes "}" = cc in (same_end ds es (code "}") z, refl)

inner_back : (ds : List ℕ) → Every Inner ds → Every NoBack ds
inner_back [] h = tt
inner_back (c ∷ ds) h = ((λ e. no_yes (sym (subst Inner e h.0))), inner_back ds h.1)

-- an escape is its backslash and what follows it, among which no other is
record Escape (o ds c : List ℕ) : Type 0 where
  tail : List ℕ
  is : o ++ (ds ++ c) ≡ code "\\" ∷ tail
  none_in : Every NoBack tail

escape_tail : (o ds c : List ℕ) → OfEscape o c → Every Inner ds → Escape o ds c
escape_tail o ds c OfEscape.x h = record {
  tail = code "x" ∷ (ds ++ codes ";");
  is = refl;
  none_in = ((λ e. omega arith), every_append NoBack ds (codes ";") (inner_back ds h) ((λ e. omega arith), tt));
}
escape_tail o ds c OfEscape.u h = record {
  tail = code "u" ∷ (ds ++ codes ";");
  is = refl;
  none_in = ((λ e. omega arith), every_append NoBack ds (codes ";") (inner_back ds h) ((λ e. omega arith), tt));
}
escape_tail o ds c OfEscape.brace h = record {
  tail = code "u" ∷ code "{" ∷ (ds ++ codes "}");
  is = refl;
  none_in = ((λ e. omega arith), ((λ e. omega arith), every_append NoBack ds (codes "}") (inner_back ds h) ((λ e. omega arith), tt)));
}

-- a brace is no digit of an escape
no_brace : (ds es : List ℕ) → Every Inner ds → ds ++ codes ";" ≡ code "{" ∷ (es ++ codes "}") → ⊥
no_brace [] es h e = let z : code ";" ≡ code "{" = cc in omega arith
no_brace (y ∷ ds) es h e = let z : y ≡ code "{" = cc in no_yes (sym (subst Inner z h.0))

of_escape : (ds es o p c d : List ℕ) → OfEscape o c → OfEscape p d → Every Inner ds → Every Inner es → o ++ (ds ++ c) ≡ p ++ (es ++ d)
    → Same ds es (length o) (length p)
of_escape ds es o p c d OfEscape.x OfEscape.x h g e = let z : ds ++ codes ";" ≡ es ++ codes ";" = cc in (same_end ds es (code ";") z, refl)
of_escape ds es o p c d OfEscape.x OfEscape.u h g e = let z : code "x" ≡ code "u" = cc in absurd (omega arith)
of_escape ds es o p c d OfEscape.x OfEscape.brace h g e = let z : code "x" ≡ code "u" = cc in absurd (omega arith)
of_escape ds es o p c d OfEscape.u OfEscape.x h g e = let z : code "u" ≡ code "x" = cc in absurd (omega arith)
of_escape ds es o p c d OfEscape.u OfEscape.u h g e = let z : ds ++ codes ";" ≡ es ++ codes ";" = cc in (same_end ds es (code ";") z, refl)
of_escape ds es o p c d OfEscape.u OfEscape.brace h g e =
    let z : ds ++ codes ";" ≡ code "{" ∷ (es ++ codes "}") = cc in absurd (no_brace ds es h z)
of_escape ds es o p c d OfEscape.brace OfEscape.x h g e = let z : code "u" ≡ code "x" = cc in absurd (omega arith)
of_escape ds es o p c d OfEscape.brace OfEscape.u h g e =
    let z : code "{" ∷ (ds ++ codes "}") ≡ es ++ codes ";" = cc in absurd (no_brace es ds g (sym z))
of_escape ds es o p c d OfEscape.brace OfEscape.brace h g e = let z : ds ++ codes "}" ≡ es ++ codes "}" = cc in (same_end ds es (code "}") z, refl)

-- a character's extent begins with `#\`
character_begins : (raw ds o c : List ℕ) → OfCharacter ds o c → raw ≡ o ++ (ds ++ c) → begins (codes "#\\") raw ≡ true
unfolding begins
character_begins raw ds o c OfCharacter.x e = ap (begins (codes "#\\")) e
character_begins raw ds o c (OfCharacter.u h) e = ap (begins (codes "#\\")) e
character_begins raw ds o c OfCharacter.brace e = ap (begins (codes "#\\")) e

one_stand : (raw ds es : List ℕ) (n m : ℕ) → Stand raw ds n → Stand raw es m → Same ds es n m
one_stand raw ds es n m (character o c f is) (character p d g js) = of_character ds es o p c d f g (sym is ∙ js)
one_stand raw ds es n m (character o c f is) (escape b u p d g js k) = no_yes (sym b ∙ character_begins raw ds o c f is)
one_stand raw ds es n m (escape b u o c f is h) (character p d g js) = no_yes (sym b ∙ character_begins raw es p d g js)
one_stand raw ds es n m (escape b u o c f is h) (escape a v p d g js k) =
    let x : Escape o ds c = escape_tail o ds c f h in
    let y : Escape p es d = escape_tail p es d g k in
    let both : u ++ (code "\\" ∷ x.tail) ≡ v ++ (code "\\" ∷ y.tail)
    = ap (λ (l : List ℕ). u ++ l) (sym x.is) ∙ sym is ∙ js ∙ ap (λ (l : List ℕ). v ++ l) y.is in
    let r = last_back u v x.tail y.tail x.none_in y.none_in both in
    let q = of_escape ds es o p c d f g h k (x.is ∙ ap (λ (l : List ℕ). code "\\" ∷ l) r.0 ∙ sym y.is) in
    (q.0, omega (arith, r.1, q.1))

-- AN EXTENT'S BYTES FIX THE DETAIL AND THE PLACE of its error 11
pub one_place : (raw : List ℕ) (start d a b d' a' b' : ℕ) → FirstFails raw start d a b → FirstFails raw start d' a' b' → (d ≡ d') × (a ≡ a') × (b ≡ b')
one_place raw start d a b d' a' b' x y =
    let s = one_stand raw x.ds y.ds x.n y.n x.stand y.stand in
    let f : Read x.ds d x.p x.q = read_failing x.ds d x.p x.q x.fails in
    let g : Read y.ds d' y.p y.q = read_failing y.ds d' y.p y.q y.fails in
    let e : wrong d x.p ≡ wrong d' y.p = sym f.answer ∙ ap hex_value s.0 ∙ g.answer in
    let kind : d ≡ d' = (same_wrong d d' x.p y.p e).0 in
    let place : x.p ≡ y.p = (same_wrong d d' x.p y.p e).1 in
    let past : x.q ≡ y.q
    = f.past ∙ ap (λ (k : ℕ). past_failing k x.p (drop x.p x.ds)) kind ∙ ap (λ (k : ℕ). past_failing d' k (drop k x.ds)) place
    ∙ ap (λ (l : List ℕ). past_failing d' y.p (drop y.p l)) s.0 ∙ sym g.past in
    (kind, omega (arith, x.begins, y.begins, s.1, place), omega (arith, x.ends, y.ends, s.1, past))
