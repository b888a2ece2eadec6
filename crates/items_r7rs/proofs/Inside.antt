-- What is read as a string is one: from the opening quote on, element by element, up to the first that the standard has not, or the closing quote.
-- `From` says of a phase what the characters are that follow until a string is read; a step puts its character before them.
use Rattle.std.proofs.Common.{Err, Ok, Result}
use Prim.Native.Nat.{ℕ}
use mathlib.Core.Path.{◌≡◌, refl, sym, ap, subst, ◌∙◌}
use mathlib.Core.Bool.{Bool, true, false}
use mathlib.Core.List.{List, [], ◌∷◌, ◌++◌, append_assoc, append-nil}
use lib.ListN.{length, drop}
use lib.Seq.{drop_at}
use lib.Dec.{eqb}
use borrow.Author.Tests.{eqb-true}
use Rattle.laws.specs.Quoted.{codes, code, one_of}
use Rattle.laws.proofs.Choice.{by_bool, if_all, if_is}
use Rattle.chars.specs.Encode.{utf8, bytes_of}
use Rattle.digits.specs.Hex.{hex_value}
use Rattle.items.specs.declared.CharError.{CharError}
use Rattle.items.specs.declared.CharError.TheVariants.{Wrong, WrongAt}
use Rattle.items.specs.declared.Next.{Next}
use Rattle.items.specs.declared.Next.TheVariants.{Eat, Stop}
use Rattle.items.specs.declared.Outcome.{Outcome}
use Rattle.items.specs.declared.Outcome.TheVariants.{Token, Str, HereStr, Word, Run, Lined, Keyword, Character, Error, ErrorAt}
use Rattle.items.specs.declared.Phase.{Phase}
use Rattle.items.specs.declared.Phase.TheVariants as ph
use Rattle.items.specs.declared.Quotes.TheVariants.{Double, Lines}
use Rattle.items.specs.Classes.{InQuotes, in_quotes, AfterBackslash, after_backslash, InHex, in_hex, stops_hex, InTrim, in_trim, delim_of}
use Rattle.items.specs.Machine.{on_quoted, on_escape, close_hex, on_hex, on_trim_before, on_trim_after, step_of, finish_of, scan_of}
use Rattle.items.specs.Readers.{SoFar, eat, scalar_of}
use Rattle.items.proofs.Cases.{by_next}
use Rattle.items_numbers.proofs.Stands.{other}
use Rattle.items_r7rs.specs.Converse.{ForeignElement, return, null, unicode, plus, SignedScalar, unsigned, after_plus}
use Rattle.items_r7rs.specs.Escape.{Mnemonic, alarm, backspace, tab, linefeed, HexScalar}
use Rattle.items_r7rs.specs.Escape as escape
use Rattle.items_r7rs.specs.Repeated.{Many, done, more}
use Rattle.items_r7rs.specs.String.{intraline, Intraline, indented, StringElements, no_more, itself, mnemonic, doublequote, backslash, vertical, goes_on, hex}
use Rattle.items_r7rs.proofs.Back.{hex_back}

-- ---- characters up to the closing quote

pub data Inside : List ℕ → Type 0 where
  closes : (u : List ℕ) {v : List ℕ} → StringElements u v → Inside (u ++ codes "\"")
  departs : (u : List ℕ) {v t : List ℕ} → StringElements u v → ForeignElement t → Inside (u ++ t)

-- an element w before them
before : {t : List ℕ} (w : List ℕ) → ((u v : List ℕ) → StringElements u v → (x : List ℕ) × StringElements (w ++ u) x) → Inside t → Inside (w ++ t)
before w f (closes u {v = v} s) = subst Inside (append_assoc w u (codes "\"")) (closes (w ++ u) (f u v s).1)
before w f (departs u {v = v} {t = t} s d) = subst Inside (append_assoc w u t) (departs (w ++ u) (f u v s).1 d)

at_once : {t : List ℕ} → ForeignElement t → Inside t
at_once d = departs [] no_more d

before_mnemonic : {t : List ℕ} {c x : ℕ} → Mnemonic c x → Inside t → Inside (code "\\" ∷ c ∷ t)
before_mnemonic {c = c} {x} m h = before (code "\\" ∷ c ∷ []) (λ u v s. (x ∷ v, mnemonic m s)) h

before_itself : {t : List ℕ} (c : ℕ) → eqb c (code "\"") ≡ false → eqb c (code "\\") ≡ false → Inside t → Inside (c ∷ t)
before_itself {t} c e f h =
    by_bool (eqb c (code "\r"))
    (λ g. subst (λ (n : ℕ). Inside (n ∷ t)) (sym (eqb-true c (code "\r") g)) (at_once return))
    (λ g. before (c ∷ []) (λ u v s. (c ∷ v, itself (rw (e, f, g)) s)) h)

before_hex : {t : List ℕ} (h : List ℕ) (x : ℕ) → HexScalar h x → Inside t → Inside (code "\\" ∷ code "x" ∷ h ++ (code ";" ∷ t))
before_hex {t} h x n i =
    subst (λ (l : List ℕ). Inside (code "\\" ∷ code "x" ∷ l)) (append_assoc h (codes ";") t)
    (before (code "\\" ∷ code "x" ∷ h ++ codes ";")
    (λ u v s. (x ∷ v, subst (λ (l : List ℕ). StringElements (code "\\" ∷ code "x" ∷ l) (x ∷ v)) (sym (append_assoc h (codes ";") u)) (hex h n s))) i)

front_indented : (u t : List ℕ) → indented (u ++ t) ≡ false → indented u ≡ false
front_indented [] t h = refl
front_indented (c ∷ u) t h = h

-- a line that goes on, up to the text of the next
pub record Line (t : List ℕ) : Type 0 where
  pub indent : List ℕ
  pub rest : List ℕ
  pub whole : t ≡ indent ++ rest
  pub spaces : Many Intraline indent
  pub solid : indented rest ≡ false
  pub inside : Inside rest

line_on : (trailing indent u x : List ℕ) → (code "\\" ∷ trailing ++ (code "\n" ∷ indent ++ u)) ++ x ≡ code "\\" ∷ trailing ++ (code "\n" ∷ indent ++ (u ++ x))
line_on trailing indent u x = rw (append_assoc trailing (code "\n" ∷ indent ++ u) x, append_assoc indent u x)

before_line : (trailing indent : List ℕ) {r : List ℕ} → Many Intraline trailing → Many Intraline indent → indented r ≡ false → Inside r
    → Inside (code "\\" ∷ trailing ++ (code "\n" ∷ indent ++ r))
before_line trailing indent m n h (closes u s) =
    subst Inside (line_on trailing indent u (codes "\"")) (closes _ (goes_on trailing indent m n (front_indented u (codes "\"") h) s))
before_line trailing indent m n h (departs u {t = t} s d) =
    subst Inside (line_on trailing indent u t) (departs _ (goes_on trailing indent m n (front_indented u t h) s) d)

line_before : {t : List ℕ} (trailing : List ℕ) → Many Intraline trailing → Line t → Inside (code "\\" ∷ trailing ++ (code "\n" ∷ t))
line_before trailing m l =
    subst (λ (k : List ℕ). Inside (code "\\" ∷ trailing ++ (code "\n" ∷ k))) (sym l.whole) (before_line trailing l.indent m l.spaces l.solid l.inside)

-- ---- what follows in a phase

-- digits after others, ds, what closes them, and the rest of the string
pub record Digits (closer : ℕ) (ds t : List ℕ) : Type 0 where
  pub digits : List ℕ
  pub rest : List ℕ
  pub whole : t ≡ digits ++ (closer ∷ rest)
  pub inside : Inside rest
  pub value : ℕ
  pub stands : scalar_of (hex_value (ds ++ bytes_of digits)) ≡ Ok value

-- spaces, a newline, and the next line
pub record Broken (t : List ℕ) : Type 0 where
  pub trailing : List ℕ
  pub rest : List ℕ
  pub whole : t ≡ trailing ++ (code "\n" ∷ rest)
  pub spaces : Many Intraline trailing
  pub line : Line rest

abbrev pub is_str : Outcome → Bool
is_str (Token k d) = false
is_str Str = true
is_str HereStr = false
is_str Word = false
is_str Run = false
is_str Lined = false
is_str Keyword = false
is_str Character = false
is_str (Error n d) = false
is_str (ErrorAt n d a b) = false

-- with the bytes b read, and t to come, in a phase that leads to a string
abbrev pub From : Phase → List ℕ → List ℕ → Type 0
From ph.InLine b t = Unit {0}
From ph.AfterComma b t = Unit {0}
From ph.AfterHash b t = Unit {0}
From ph.AfterAngle b t = Unit {0}
From ph.HereDelim b t = Unit {0}
From ph.HereStart b t = Unit {0}
From ph.HereBody b t = Unit {0}
From ph.InWord b t = Unit {0}
From ph.WordEscape b t = Unit {0}
From ph.InRun b t = Unit {0}
From ph.InHash b t = Unit {0}
From ph.HashEscape b t = Unit {0}
From ph.HashTick b t = Unit {0}
From ph.HashComma b t = Unit {0}
From (ph.Nest d) b t = Unit {0}
From (ph.NestBar d) b t = Unit {0}
From (ph.NestSharp d) b t = Unit {0}
From (ph.Quoted Double) b t = Inside t
From (ph.Quoted Lines) b t = Unit {0}
From (ph.Closed Double) b t = t ≡ []
From (ph.Closed Lines) b t = Unit {0}
From (ph.TrimBefore Double) b t = Broken t
From (ph.TrimBefore Lines) b t = Unit {0}
From (ph.TrimAfter Double) b t = Line t
From (ph.TrimAfter Lines) b t = Unit {0}
From (ph.Escape Double from) b t = Inside (code "\\" ∷ t)
From (ph.Escape Lines from) b t = Unit {0}
From (ph.Brace k from) b t = Unit {0}
From (ph.Hex Double closer from n) b t = (w ds : List ℕ) → b ≡ w ++ ds → length w ≡ n → Digits closer ds t
From (ph.Hex Lines closer from n) b t = Unit {0}
From (ph.Done o) b t = is_str o ≡ true

-- ---- a step, backwards

abbrev Back : Phase → List ℕ → ℕ → Next → Type 0
Back p b c (Eat q) = (t : List ℕ) → From q (b ++ utf8 c) t → From p b (c ∷ t)
Back p b c (Stop o) = is_str o ≡ true → From p b []

-- where nothing is asked
any_back : (p : Phase) (b : List ℕ) (c : ℕ) (n : Next) → ((t : List ℕ) → From p b t) → Back p b c n
any_back p b c (Eat q) f = λ t h. f (c ∷ t)
any_back p b c (Stop o) f = λ e. f []

module _ (i : SoFar) (c : ℕ) where
  abbrev b : List ℕ
  b = i.bytes

  back_quoted : Back (ph.Quoted Double) b c (on_quoted (in_quotes Double c) Double i c)
  unfolding in_quotes
  back_quoted =
      let P : InQuotes → Type 0 = λ k. Back (ph.Quoted Double) b c (on_quoted k Double i c) in
      if_is P (eqb c (code "\""))
      (λ e t h. subst (λ (l : List ℕ). Inside (c ∷ l)) (sym h) (subst (λ (n : ℕ). Inside (n ∷ [])) (sym (eqb-true c (code "\"") e)) (closes [] no_more)))
      (λ e. if_is P (eqb c (code "\\"))
      (λ f t h. subst (λ (n : ℕ). Inside (n ∷ t)) (sym (eqb-true c (code "\\") f)) h)
      (λ f t h. before_itself c e f h))

  -- the character after the backslash is x
  after : (x : ℕ) (t : List ℕ) → eqb c x ≡ true → Inside (code "\\" ∷ x ∷ t) → Inside (code "\\" ∷ c ∷ t)
  after x t e h = subst (λ (n : ℕ). Inside (code "\\" ∷ n ∷ t)) (sym (eqb-true c x e)) h

  hex_inside : (t : List ℕ) → Digits (code ";") [] t → Inside (code "\\" ∷ code "x" ∷ t)
  hex_inside t d = subst (λ (l : List ℕ). Inside (code "\\" ∷ code "x" ∷ l)) (sym d.whole) (go (hex_back d.digits d.value d.stands))
    where
      go : {h : List ℕ} → SignedScalar h d.value → Inside (code "\\" ∷ code "x" ∷ h ++ (code ";" ∷ d.rest))
      go (unsigned {h = h} s) = before_hex h d.value s d.inside
      go (after_plus s) = at_once plus

  blank_after : (t : List ℕ) → one_of intraline c ≡ true → Broken t → Inside (code "\\" ∷ c ∷ t)
  blank_after t e k = subst (λ (l : List ℕ). Inside (code "\\" ∷ c ∷ l)) (sym k.whole) (line_before (c ∷ k.trailing) (more e k.spaces) k.line)

  back_escape : (from : ℕ) → Back (ph.Escape Double from) b c (on_escape (after_backslash c) Double from i c)
  unfolding after_backslash
  back_escape from =
      let P : AfterBackslash → Type 0 = λ k. Back (ph.Escape Double from) b c (on_escape k Double from i c) in
      if_is P (eqb c (code "\"")) (λ e t h. after (code "\"") t e (before (codes "\\\"") (λ u v s. (code "\"" ∷ v, doublequote s)) h)) (λ e₁.
      if_is P (eqb c (code "a")) (λ e t h. after (code "a") t e (before_mnemonic alarm h)) (λ e₂.
      if_is P (eqb c (code "b")) (λ e t h. after (code "b") t e (before_mnemonic backspace h)) (λ e₃.
      if_is P (eqb c (code "\\")) (λ e t h. after (code "\\") t e (before (codes "\\\\") (λ u v s. (code "\\" ∷ v, backslash s)) h)) (λ e₄.
      if_is P (eqb c (code "|")) (λ e t h. after (code "|") t e (before (codes "\\|") (λ u v s. (code "|" ∷ v, vertical s)) h)) (λ e₅.
      if_is P (eqb c (code "t")) (λ e t h. after (code "t") t e (before_mnemonic tab h)) (λ e₆.
      if_is P (eqb c (code "n")) (λ e t h. after (code "n") t e (before_mnemonic linefeed h)) (λ e₇.
      if_is P (eqb c (code "r")) (λ e t h. after (code "r") t e (before_mnemonic escape.return h)) (λ e₈.
      if_is P (eqb c (code "0")) (λ e t h. after (code "0") t e (at_once null)) (λ e₉.
      if_is P (eqb c (code "x")) (λ e t h. after (code "x") t e (hex_inside t (h (b ++ utf8 c) [] (sym (append-nil (b ++ utf8 c))) refl))) (λ e₁₀.
      if_is P (eqb c (code "u")) (λ e t h. after (code "u") t e (at_once unicode)) (λ e₁₁.
      if_is P (eqb c (code " ")) (λ e t h. blank_after t (rw e) h) (λ e₁₂.
      if_is P (eqb c (code "\t")) (λ e t h. blank_after t (rw (e₁₂, e)) h) (λ e₁₃.
      if_is P (eqb c (code "\n")) (λ e t h. after (code "\n") t e (line_before [] done h)) (λ e₁₄ k. other refl k))))))))))))))

  back_before : Back (ph.TrimBefore Double) b c (on_trim_before (in_trim c) Double i c)
  unfolding in_trim
  back_before =
      let P : InTrim → Type 0 = λ k. Back (ph.TrimBefore Double) b c (on_trim_before k Double i c) in
      if_is P (eqb c (code " ")) (λ e t k. spaced t (rw e) k) (λ e₁.
      if_is P (eqb c (code "\t")) (λ e t k. spaced t (rw (e₁, e)) k) (λ e₂.
      if_is P (eqb c (code "\n")) (λ e t l. record { trailing = []; rest = t; whole = ap (λ (n : ℕ). n ∷ t) (eqb-true c (code "\n") e); spaces = done; line = l }) (λ e₃ k. other refl k)))
    where
      spaced : (t : List ℕ) → one_of intraline c ≡ true → Broken t → Broken (c ∷ t)
      spaced t e k = record { trailing = c ∷ k.trailing; rest = k.rest; whole = ap (λ (l : List ℕ). c ∷ l) k.whole; spaces = more e k.spaces; line = k.line }

  -- the text of the next line begins
  begins_line : (t : List ℕ) → indented t ≡ false → Inside t → Line t
  begins_line t e h = record { indent = []; rest = t; whole = refl; spaces = done; solid = e; inside = h }

  back_solid : (n : Next) → one_of intraline c ≡ false → Back (ph.Quoted Double) b c n → Back (ph.TrimAfter Double) b c n
  back_solid (Eat q) e f = λ t h. begins_line (c ∷ t) e (f t h)
  back_solid (Stop o) e f = λ h. begins_line [] refl (f h)

  back_trim : Back (ph.TrimAfter Double) b c (on_trim_after (in_trim c) Double i c)
  unfolding in_trim
  back_trim =
      let P : InTrim → Type 0 = λ k. Back (ph.TrimAfter Double) b c (on_trim_after k Double i c) in
      if_is P (eqb c (code " ")) (λ e t l. spaced t (rw e) l) (λ e₁.
      if_is P (eqb c (code "\t")) (λ e t l. spaced t (rw (e₁, e)) l) (λ e₂.
      if_is P (eqb c (code "\n")) (λ e t h. begins_line (c ∷ t) (rw (e₁, e₂)) (before_itself c (rw (eqb-true c (code "\n") e)) (rw (eqb-true c (code "\n") e)) h))
      (λ e₃. back_solid (on_quoted (in_quotes Double c) Double i c) (rw (e₁, e₂)) back_quoted)))
    where
      spaced : (t : List ℕ) → one_of intraline c ≡ true → Line t → Line (c ∷ t)
      spaced t e l = record { indent = c ∷ l.indent; rest = l.rest; whole = ap (λ (l : List ℕ). c ∷ l) l.whole; spaces = more e l.spaces; solid = l.solid; inside = l.inside }

  module _ (report : Bool) (closer from n : ℕ) where
    abbrev Hexed : Next → Type 0
    Hexed = Back (ph.Hex Double closer from n) b c

    back_close : c ≡ closer → (v : Result ℕ CharError) → scalar_of (hex_value (drop n b)) ≡ v → (to : ℕ) → Hexed (close_hex report v Double from n to i)
    unfolding bytes_of
    back_close e (Ok x) f to = λ t h w ds whole long. record {
      digits = [];
      rest = t;
      whole = ap (λ (n : ℕ). n ∷ t) e;
      inside = h;
      value = x;
      stands = ap (λ (l : List ℕ). scalar_of (hex_value l)) (append-nil ds ∙ sym (ap (drop n) whole ∙ drop_at w ds n long)) ∙ f;
    }
    back_close e (Err (Wrong m d)) f to = λ t h. other refl h
    back_close e (Err (WrongAt m d p)) f to = λ t h. other (if_all (λ (o : Outcome). is_str o ≡ false) report refl refl) h

    one_more : (t : List ℕ) (w ds : List ℕ) → b ≡ w ++ ds → Digits closer (ds ++ utf8 c) t → Digits closer ds (c ∷ t)
    unfolding bytes_of
    one_more t w ds e d = record {
      digits = c ∷ d.digits;
      rest = d.rest;
      whole = ap (λ (l : List ℕ). c ∷ l) d.whole;
      inside = d.inside;
      value = d.value;
      stands = ap (λ (l : List ℕ). scalar_of (hex_value l)) (sym (append_assoc ds (utf8 c) (bytes_of d.digits))) ∙ d.stands;
    }

    back_hex : Hexed (on_hex report (in_hex Double closer c) Double closer from n i c)
    unfolding in_hex
    back_hex =
        let P : InHex → Type 0 = λ k. Hexed (on_hex report k Double closer from n i c) in
        if_is P (eqb c closer) (λ e. back_close (eqb-true c closer e) (scalar_of (hex_value (drop n b))) refl (eat i c).at) (λ e.
        if_all P (stops_hex c) (λ t h. other refl h) (
        if_all P (eqb c (delim_of Double)) (λ t h. other refl h) (
        λ t h w ds whole long. one_more t w ds whole (h w (ds ++ utf8 c) (ap (λ (l : List ℕ). l ++ utf8 c) whole ∙ append_assoc w ds (utf8 c)) long))))

  back_on : (report : Bool) (p : Phase) → Back p b c (step_of report p i c)
  back_on report (ph.Quoted Double) = back_quoted
  back_on report (ph.Closed Double) = λ h. refl
  back_on report (ph.TrimBefore Double) = back_before
  back_on report (ph.TrimAfter Double) = back_trim
  back_on report (ph.Escape Double from) = back_escape from
  back_on report (ph.Hex Double closer from n) = back_hex report closer from n
  back_on report (ph.Done o) = λ h. h
  back_on report ph.InLine = any_back ph.InLine b c (step_of report ph.InLine i c) (λ t. tt)
  back_on report ph.AfterComma = any_back ph.AfterComma b c (step_of report ph.AfterComma i c) (λ t. tt)
  back_on report ph.AfterHash = any_back ph.AfterHash b c (step_of report ph.AfterHash i c) (λ t. tt)
  back_on report ph.AfterAngle = any_back ph.AfterAngle b c (step_of report ph.AfterAngle i c) (λ t. tt)
  back_on report ph.HereDelim = any_back ph.HereDelim b c (step_of report ph.HereDelim i c) (λ t. tt)
  back_on report ph.HereStart = any_back ph.HereStart b c (step_of report ph.HereStart i c) (λ t. tt)
  back_on report ph.HereBody = any_back ph.HereBody b c (step_of report ph.HereBody i c) (λ t. tt)
  back_on report ph.InWord = any_back ph.InWord b c (step_of report ph.InWord i c) (λ t. tt)
  back_on report ph.WordEscape = any_back ph.WordEscape b c (step_of report ph.WordEscape i c) (λ t. tt)
  back_on report ph.InRun = any_back ph.InRun b c (step_of report ph.InRun i c) (λ t. tt)
  back_on report ph.InHash = any_back ph.InHash b c (step_of report ph.InHash i c) (λ t. tt)
  back_on report ph.HashEscape = any_back ph.HashEscape b c (step_of report ph.HashEscape i c) (λ t. tt)
  back_on report ph.HashTick = any_back ph.HashTick b c (step_of report ph.HashTick i c) (λ t. tt)
  back_on report ph.HashComma = any_back ph.HashComma b c (step_of report ph.HashComma i c) (λ t. tt)
  back_on report (ph.Nest d) = any_back (ph.Nest d) b c (step_of report (ph.Nest d) i c) (λ t. tt)
  back_on report (ph.NestBar d) = any_back (ph.NestBar d) b c (step_of report (ph.NestBar d) i c) (λ t. tt)
  back_on report (ph.NestSharp d) = any_back (ph.NestSharp d) b c (step_of report (ph.NestSharp d) i c) (λ t. tt)
  back_on report (ph.Quoted Lines) = any_back (ph.Quoted Lines) b c (step_of report (ph.Quoted Lines) i c) (λ t. tt)
  back_on report (ph.Closed Lines) = any_back (ph.Closed Lines) b c (step_of report (ph.Closed Lines) i c) (λ t. tt)
  back_on report (ph.TrimBefore Lines) = any_back (ph.TrimBefore Lines) b c (step_of report (ph.TrimBefore Lines) i c) (λ t. tt)
  back_on report (ph.TrimAfter Lines) = any_back (ph.TrimAfter Lines) b c (step_of report (ph.TrimAfter Lines) i c) (λ t. tt)
  back_on report (ph.Escape Lines from) = any_back (ph.Escape Lines from) b c (step_of report (ph.Escape Lines from) i c) (λ t. tt)
  back_on report (ph.Brace k from) = any_back (ph.Brace k from) b c (step_of report (ph.Brace k from) i c) (λ t. tt)
  back_on report (ph.Hex Lines closer from n) = any_back (ph.Hex Lines closer from n) b c (step_of report (ph.Hex Lines closer from n) i c) (λ t. tt)

-- ---- the end, and the whole

back_finish : (p : Phase) (raw : List ℕ) → is_str (finish_of p raw) ≡ true → From p raw []
back_finish (ph.Quoted Double) raw h = other refl h
back_finish (ph.Closed Double) raw h = refl
back_finish (ph.TrimBefore Double) raw h = other refl h
back_finish (ph.TrimAfter Double) raw h = other refl h
back_finish (ph.Escape Double from) raw h = other refl h
back_finish (ph.Hex Double closer from n) raw h = other refl h
back_finish (ph.Done o) raw h = h
back_finish ph.InLine raw h = tt
back_finish ph.AfterComma raw h = tt
back_finish ph.AfterHash raw h = tt
back_finish ph.AfterAngle raw h = tt
back_finish ph.HereDelim raw h = tt
back_finish ph.HereStart raw h = tt
back_finish ph.HereBody raw h = tt
back_finish ph.InWord raw h = tt
back_finish ph.WordEscape raw h = tt
back_finish ph.InRun raw h = tt
back_finish ph.InHash raw h = tt
back_finish ph.HashEscape raw h = tt
back_finish ph.HashTick raw h = tt
back_finish ph.HashComma raw h = tt
back_finish (ph.Nest d) raw h = tt
back_finish (ph.NestBar d) raw h = tt
back_finish (ph.NestSharp d) raw h = tt
back_finish (ph.Quoted Lines) raw h = tt
back_finish (ph.Closed Lines) raw h = tt
back_finish (ph.TrimBefore Lines) raw h = tt
back_finish (ph.TrimAfter Lines) raw h = tt
back_finish (ph.Escape Lines from) raw h = tt
back_finish (ph.Brace k from) raw h = tt
back_finish (ph.Hex Lines closer from n) raw h = tt

-- a scan takes t, and if it gives a string, t is what was asked
pub scan_back : (report : Bool) (p : Phase) (i : SoFar) (cs : List ℕ)
    → (t : List ℕ) × (cs ≡ t ++ (scan_of report p i cs).rest) × (is_str (scan_of report p i cs).what ≡ true → From p i.bytes t)
unfolding scan_of
scan_back report p i [] = ([], refl, back_finish p i.bytes)
scan_back report p i (c ∷ cs) =
    let g : Back p i.bytes c (step_of report p i c) = back_on i c report p in
    by_next (step_of report p i c)
    (λ q e. rw (e, scan_of) (let h = scan_back report q (eat i c) cs in let k : Back p i.bytes c (Eat q) = rw e at g in
    (c ∷ h.0, ap (λ (l : List ℕ). c ∷ l) h.1, λ s. k h.0 (h.2 s))))
    (λ o e. rw (e, scan_of) (let k : Back p i.bytes c (Stop o) = rw e at g in ([], refl, k)))
