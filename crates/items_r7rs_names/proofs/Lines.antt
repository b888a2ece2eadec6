-- What stands between vertical lines: crate items_decoding has its elements, and each is one of the standard's, or a foreign escape (specs/Names). The
-- text is what they stand for, or, where that is nothing, what is written.
use Prim.Native.Nat.{ℕ, ◌+◌, ◌-◌}
use mathlib.Core.Path.{◌≡◌, refl, sym, ap, subst, ◌∙◌}
use mathlib.Core.Bool.{Bool, true, false}
use mathlib.Core.List.{List, [], ◌∷◌, ◌++◌, append_assoc}
use mathlib.Core.Logic.{◌⊎◌, inl, inr}
use lib.Dec.{eqb}
use native.Mathlib.Omega.{arith}
use borrow.Author.Tests.{eqb-true}
use Rattle.laws.specs.Quoted.{codes, code, one_of}
use Rattle.laws.proofs.Choice.{by_bool, no_yes, if_is, if_all}
use Rattle.chars.specs.Encode.{utf8, bytes_of}
use Rattle.items.specs.declared.Quotes.TheVariants.{Lines}
use Rattle.items.specs.Classes.{in_quotes, plain, AfterBackslash, after_backslash, simple, hex_x, hex_u, blank, newline, invalid}
use Rattle.items_r7rs.specs.Converse.{SignedScalar, unsigned, after_plus}
use Rattle.items_r7rs.specs.Escape as letter
use Rattle.items_r7rs.specs.Identifier.{SymbolElements, no_more, itself, mnemonic, vertical, doublequote, backslash, goes_on, hex}
use Rattle.items_r7rs.specs.Repeated.{Many, done}
use Rattle.items_r7rs.specs.Repeated as many
use Rattle.items_r7rs.specs.String.{intraline, Intraline, indented}
use Rattle.items_r7rs.proofs.Back.{hex_back}
use Rattle.items_r7rs.proofs.Classes.{at_one_of, not_first}
use Rattle.items_r7rs_words.proofs.Behind.{last_or, last_of_two}
use Rattle.items_decoding.specs.Elements.{Solid, Element, Part, written, value, Elements, none, more}
use Rattle.items_decoding.specs.Elements as element
use Rattle.items_r7rs_names.specs.Names.{ForeignEscape, null, unicode, plus}

-- characters between the lines, and the bytes that they stand for: the standard's elements, up to a foreign escape or to the end
pub data Inside : List ℕ → List ℕ → Type 0 where
  all : {u v : List ℕ} → SymbolElements u v → Inside u (bytes_of v)
  foreign : (u : List ℕ) {v t w : List ℕ} → SymbolElements u v → ForeignEscape t → Inside (u ++ t) w

-- an element w that stands for the character x, before them
before : {t v : List ℕ} (w : List ℕ) (x : ℕ) → ((u y : List ℕ) → SymbolElements u y → SymbolElements (w ++ u) (x ∷ y)) → Inside t v → Inside (w ++ t) (utf8 x ++ v)
unfolding bytes_of
before w x f (all {u = u} {v = y} s) = all (f u y s)
before w x f (foreign u {v = y} {t = t} {w = z} s d) = subst (λ (l : List ℕ). Inside l (utf8 x ++ z)) (append_assoc w u t) (foreign (w ++ u) (f u y s) d)

at_once : {t w : List ℕ} → ForeignEscape t → Inside t w
at_once d = foreign [] no_more d

-- `\0` is an escape here, and none of the standard's
null_departs : {t : List ℕ} → ForeignEscape (code "\\" ∷ code "0" ∷ t)
null_departs = null

-- ---- one element

abbrev is_simple : AfterBackslash → Bool
is_simple (simple x) = true
is_simple hex_x = false
is_simple hex_u = false
is_simple blank = false
is_simple newline = false
is_simple invalid = false

abbrev stands_for : AfterBackslash → ℕ
stands_for (simple x) = x
stands_for hex_x = 0
stands_for hex_u = 0
stands_for blank = 0
stands_for newline = 0
stands_for invalid = 0

-- a simple escape, by its letter
module _ (c x : ℕ) {t v : List ℕ} (h : Inside t v) where
  abbrev Escape : AfterBackslash → Type 0
  Escape a = a ≡ simple x → Inside (code "\\" ∷ c ∷ t) (x ∷ v)

  by_letter : (k y : ℕ) → eqb c k ≡ true → Inside (code "\\" ∷ k ∷ t) (y ∷ v) → Escape (simple y)
  by_letter k y e i f =
      subst (λ (n : ℕ). Inside (code "\\" ∷ n ∷ t) (x ∷ v)) (sym (eqb-true c k e)) (subst (λ (n : ℕ). Inside (code "\\" ∷ k ∷ t) (n ∷ v)) (ap stands_for f) i)

  escape_inside : Escape (after_backslash c)
  unfolding after_backslash utf8
  escape_inside =
      if_is Escape (eqb c (code "\"")) (λ e. by_letter (code "\"") (code "\"") e (before (codes "\\\"") (code "\"") (λ u y s. doublequote s) h)) (λ _.
      if_is Escape (eqb c (code "a")) (λ e. by_letter (code "a") 0x07 e (before (codes "\\a") 0x07 (λ u y s. mnemonic letter.alarm s) h)) (λ _.
      if_is Escape (eqb c (code "b")) (λ e. by_letter (code "b") 0x08 e (before (codes "\\b") 0x08 (λ u y s. mnemonic letter.backspace s) h)) (λ _.
      if_is Escape (eqb c (code "\\")) (λ e. by_letter (code "\\") (code "\\") e (before (codes "\\\\") (code "\\") (λ u y s. backslash s) h)) (λ _.
      if_is Escape (eqb c (code "|")) (λ e. by_letter (code "|") (code "|") e (before (codes "\\|") (code "|") (λ u y s. vertical s) h)) (λ _.
      if_is Escape (eqb c (code "t")) (λ e. by_letter (code "t") (code "\t") e (before (codes "\\t") (code "\t") (λ u y s. mnemonic letter.tab s) h)) (λ _.
      if_is Escape (eqb c (code "n")) (λ e. by_letter (code "n") (code "\n") e (before (codes "\\n") (code "\n") (λ u y s. mnemonic letter.linefeed s) h)) (λ _.
      if_is Escape (eqb c (code "r")) (λ e. by_letter (code "r") (code "\r") e (before (codes "\\r") (code "\r") (λ u y s. mnemonic letter.return s) h)) (λ _.
      if_is Escape (eqb c (code "0")) (λ e. by_letter (code "0") 0x00 e (at_once null_departs)) (λ _.
      if_all Escape (eqb c (code "x")) (λ f. no_yes (ap is_simple f)) (
      if_all Escape (eqb c (code "u")) (λ f. no_yes (ap is_simple f)) (
      if_all Escape (eqb c (code " ")) (λ f. no_yes (ap is_simple f)) (
      if_all Escape (eqb c (code "\t")) (λ f. no_yes (ap is_simple f)) (
      if_all Escape (eqb c (code "\n")) (λ f. no_yes (ap is_simple f)) (λ f. no_yes (ap is_simple f)))))))))))))))

-- a character that stands for itself
plain_is : (c : ℕ) → in_quotes Lines c ≡ plain → one_of (codes "|\\") c ≡ false
unfolding in_quotes
plain_is c h =
    by_bool (eqb c (code "|"))
    (λ e. let z = rw e at h in cc)
    (λ e. by_bool (eqb c (code "\\")) (λ f. let z = rw (e, f) at h in cc) (λ f. rw (e, f)))

hex_inside : (ds : List ℕ) (x : ℕ) {t v : List ℕ} → SignedScalar ds x → Inside t v → Inside ((codes "\\x" ++ (ds ++ codes ";")) ++ t) (utf8 x ++ v)
hex_inside ds x (unsigned n) h =
    before (codes "\\x" ++ (ds ++ codes ";")) x
    (λ u y s. subst (λ (l : List ℕ). SymbolElements (code "\\" ∷ code "x" ∷ l) (x ∷ y)) (sym (append_assoc ds (codes ";") u)) (hex ds n s)) h
hex_inside ds x (after_plus n) h = at_once plus

-- a line that goes on, before what is no space or tab
indented_front : (u t : List ℕ) → indented (u ++ t) ≡ false → indented u ≡ false
indented_front [] t h = refl
indented_front (c ∷ u) t h = h

solid_front : (t after : List ℕ) → Solid (t ++ after) → indented t ≡ false
solid_front [] after h = refl
solid_front (c ∷ t) after h = h

line_inside : (trailing indent : List ℕ) {t v : List ℕ} → Many Intraline trailing → Many Intraline indent → indented t ≡ false → Inside t v
    → Inside ((code "\\" ∷ trailing ++ (code "\n" ∷ indent)) ++ t) v
line_inside trailing indent m n e (all {u = u} {v = v} s) =
    subst (λ (l : List ℕ). Inside (code "\\" ∷ l) (bytes_of v)) (sym (append_assoc trailing (code "\n" ∷ indent) u)) (all (goes_on trailing indent m n e s))
line_inside trailing indent m n e (foreign u {t = t} {w = w} s d) =
    let w₁ : List ℕ = code "\n" ∷ indent ++ u in
    let whole : (code "\\" ∷ trailing ++ w₁) ++ t ≡ (code "\\" ∷ trailing ++ (code "\n" ∷ indent)) ++ (u ++ t)
    = rw (append_assoc trailing w₁ t, append_assoc trailing (code "\n" ∷ indent) (u ++ t), append_assoc indent u t) in
    subst (λ (l : List ℕ). Inside l w) whole (foreign (code "\\" ∷ trailing ++ w₁) (goes_on trailing indent m n (indented_front u t e) s) d)

one : (after : List ℕ) {t v w x : List ℕ} → Element Lines (t ++ after) w x → Inside t v → Inside (w ++ t) (x ++ v)
one after (element.itself {c = c} h) i = before (c ∷ []) c (λ u y s. itself (plain_is c h) s) i
one after (element.escape {c = c} {x = x} e) i = escape_inside c x i e
one after (element.hex ds {v = x} m n) i = hex_inside ds x (hex_back ds x n) i
one after (element.unicode ds m n) i = at_once unicode
one after (element.braced ds m n) i = at_once unicode
one after {t} (element.line u w m n h) i = line_inside u w m n (solid_front t after h) i

pub inside : {after : List ℕ} {ps : List Part} → Elements Lines after ps → Inside (written ps) (value ps)
unfolding written value bytes_of
inside none = all no_more
inside {after} (more {p = p} {ps = ps} e es) = one after e (inside es)

-- ---- an escaped line at the end

-- the last element is `\|`
pub data LineLast : List ℕ → List ℕ → Type 0 where
  escaped : (u : List ℕ) {v : List ℕ} → SymbolElements u v → LineLast (u ++ codes "\\|") (v ++ codes "|")

behind : {t v : List ℕ} (w : List ℕ) (x : List ℕ) → ((u y : List ℕ) → SymbolElements u y → SymbolElements (w ++ u) (x ++ y)) → LineLast t v → LineLast (w ++ t) (x ++ v)
behind w x f (escaped u {v = v} s) =
    subst (λ (l : List ℕ). LineLast l (x ++ (v ++ codes "|"))) (append_assoc w u (codes "\\|"))
    (subst (λ (l : List ℕ). LineLast ((w ++ u) ++ codes "\\|") l) (append_assoc x v (codes "|")) (escaped (w ++ u) (f u v s)))

-- no vertical line
abbrev Other : ℕ → Type 0
Other b = eqb b (code "|") ≡ false

-- spaces and tabs are passed over
last_spaces : (b : ℕ) {w : List ℕ} (t : List ℕ) → Many Intraline w → Other b → last_or b (w ++ t) ≡ code "|" → (x : ℕ) × Other x × (last_or x t ≡ code "|")
last_spaces b t done o h = (b, o, h)
last_spaces b t (many.more {c = c} e m) o h = last_spaces c t m (at_one_of (λ n. eqb n (code "|")) false intraline c refl e) h

no_line : {A : Type 0} (b : ℕ) → Other b → b ≡ code "|" → A
no_line b o e = no_yes (sym o ∙ ap (λ (n : ℕ). eqb n (code "|")) e)

mnemonic_other : {c x : ℕ} → letter.Mnemonic c x → Other c
mnemonic_other letter.alarm = refl
mnemonic_other letter.backspace = refl
mnemonic_other letter.tab = refl
mnemonic_other letter.linefeed = refl
mnemonic_other letter.return = refl

abbrev Last : ℕ → List ℕ → List ℕ → Type 0
Last b u v = ((u ≡ []) × (v ≡ []) × (b ≡ code "|")) ⊎ LineLast u v

-- an element w that stands for x and does not end in a line, before them
over : {t v : List ℕ} (b c : ℕ) (w x : List ℕ) → Other c → ((u y : List ℕ) → SymbolElements u y → SymbolElements (w ++ u) (x ++ y)) → Last c t v → Last b (w ++ t) (x ++ v)
over b c w x o f (inl e) = no_line c o e.2
over b c w x o f (inr l) = inr (behind w x f l)

line_over : (trailing indent : List ℕ) {t v : List ℕ} → Many Intraline trailing → Many Intraline indent → indented t ≡ false → LineLast t v
    → LineLast (code "\\" ∷ trailing ++ (code "\n" ∷ indent ++ t)) v
line_over trailing indent m n e (escaped u {v = v} s) =
    let whole : (code "\\" ∷ trailing ++ (code "\n" ∷ indent ++ u)) ++ codes "\\|" ≡ code "\\" ∷ trailing ++ (code "\n" ∷ indent ++ (u ++ codes "\\|"))
    = rw (append_assoc trailing (code "\n" ∷ indent ++ u) (codes "\\|"), append_assoc indent u (codes "\\|")) in
    subst (λ (l : List ℕ). LineLast l (v ++ codes "|")) whole
    (escaped (code "\\" ∷ trailing ++ (code "\n" ∷ indent ++ u)) (goes_on trailing indent m n (indented_front u (codes "\\|") e) s))

line_on : {t v : List ℕ} (b c : ℕ) → Other c → (trailing indent : List ℕ) → Many Intraline trailing → Many Intraline indent → indented t ≡ false → Last c t v
    → Last b (code "\\" ∷ trailing ++ (code "\n" ∷ indent ++ t)) v
line_on b c o trailing indent m n e (inl f) = no_line c o f.2
line_on b c o trailing indent m n e (inr l) = inr (line_over trailing indent m n e l)

last_element : {u v : List ℕ} (b : ℕ) → SymbolElements u v → last_or b u ≡ code "|" → Last b u v
last_element b no_more h = inl (refl, refl, h)
last_element b (itself {c = c} e s) h = over b c (c ∷ []) (c ∷ []) (not_first (code "|") (codes "\\") c e) (λ u y k. itself e k) (last_element c s h)
last_element b (mnemonic {c = c} {x = x} m s) h = over b c (code "\\" ∷ c ∷ []) (x ∷ []) (mnemonic_other m) (λ u y k. mnemonic m k) (last_element c s h)
last_element b (vertical {t = t} {v = v} s) h = go (last_element (code "|") s h)
  where
    go : Last (code "|") t v → Last b (codes "\\|" ++ t) (codes "|" ++ v)
    go (inl e) =
        inr (subst (λ (l : List ℕ). LineLast (codes "\\|" ++ l) (codes "|" ++ v)) (sym e.0)
        (subst (λ (l : List ℕ). LineLast (codes "\\|") (codes "|" ++ l)) (sym e.1) (escaped [] no_more)))
    go (inr l) = inr (behind (codes "\\|") (codes "|") (λ u y k. vertical k) l)
last_element b (doublequote s) h = over b (code "\"") (codes "\\\"") (codes "\"") refl (λ u y k. doublequote k) (last_element (code "\"") s h)
last_element b (backslash s) h = over b (code "\\") (codes "\\\\") (codes "\\") refl (λ u y k. backslash k) (last_element (code "\\") s h)
last_element b (goes_on trailing indent {t = t} {v = v} m n e s) h =
    let r = last_spaces (code "\n") t n refl (sym (last_of_two (code "\\") trailing (code "\n") (indent ++ t)) ∙ h) in
    line_on b r.0 r.1 trailing indent m n e (last_element r.0 s r.2)
last_element b (hex ds {x = x} {t = t} {v = v} n s) h =
    subst (λ (l : List ℕ). Last b (code "\\" ∷ code "x" ∷ l) (x ∷ v)) (append_assoc ds (codes ";") t)
    (over b (code ";") (codes "\\x" ++ (ds ++ codes ";")) (x ∷ []) refl
    (λ u y k. subst (λ (l : List ℕ). SymbolElements (code "\\" ∷ code "x" ∷ l) (x ∷ y)) (sym (append_assoc ds (codes ";") u)) (hex ds n k))
    (last_element (code ";") s (sym (last_of_two (code "x") ds (code ";") t) ∙ h)))

-- elements that end in a vertical line end in an escaped one
pub line_last : {u v : List ℕ} → SymbolElements u v → (h : List ℕ) → u ≡ h ++ codes "|" → LineLast u v
line_last {u} {v} s h e = go (last_element 0 s (ap (last_or 0) e ∙ last_of_two 0 h (code "|") []))
  where
    go : Last 0 u v → LineLast u v
    go (inl f) = no_line 0 refl f.2
    go (inr l) = l
