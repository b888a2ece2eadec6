-- What stands in quotes and in vertical lines, as the standard has it (specs/Standard), is what crate items_r7rs has there, up to a departure.
use Prim.Native.Nat.{ℕ}
use mathlib.Core.Path.{◌≡◌, refl, sym, subst}
use mathlib.Core.Bool.{false}
use mathlib.Core.List.{List, [], ◌∷◌, ◌++◌, append_assoc}
use lib.Dec.{eqb}
use borrow.Author.Tests.{eqb-true}
use Rattle.laws.specs.Quoted.{codes, code}
use Rattle.laws.proofs.Choice.{by_bool, no_yes}
use Rattle.items_r7rs.specs.Identifier.{SymbolElements}
use Rattle.items_r7rs.specs.Identifier as symbol
use Rattle.items_r7rs.specs.Repeated.{Many}
use Rattle.items_r7rs.specs.String.{Intraline, indented, StringElements}
use Rattle.items_r7rs.specs.String as string
use Rattle.items_r7rs_tokens.specs.Standard.{LineEnding, newline, return_newline, return, IsX, Elements, Symbols, Departure, upper_x, return_ends_line, return_alone}
use Rattle.items_r7rs_tokens.specs.Standard as standard

-- elements, up to a departure or to the end
pub data UpTo (E : List ℕ → List ℕ → Type 0) : List ℕ → List ℕ → Type 0 where
  all : {u v : List ℕ} → E u v → UpTo E u v
  departs : (p : List ℕ) {x t v : List ℕ} → E p x → Departure t → UpTo E (p ++ t) v

-- what follows a departure does not matter
pub departure_on : {t : List ℕ} (u : List ℕ) → Departure t → Departure (t ++ u)
departure_on u upper_x = upper_x
departure_on u (return_ends_line w t m) =
    subst (λ (l : List ℕ). Departure (code "\\" ∷ l)) (sym (append_assoc w (code "\r" ∷ t) u)) (return_ends_line w (t ++ u) m)
departure_on u return_alone = return_alone

front : (u t : List ℕ) → indented (u ++ t) ≡ false → indented u ≡ false
front [] t h = refl
front (c ∷ u) t h = h

-- of strings and of symbols alike
module _ (E : List ℕ → List ℕ → Type 0) (none : E [] []) where
  at_once : {t v : List ℕ} → Departure t → UpTo E t v
  at_once d = departs [] none d

  before : {t v : List ℕ} (w x : List ℕ) → ((u y : List ℕ) → E u y → E (w ++ u) (x ++ y)) → UpTo E t v → UpTo E (w ++ t) (x ++ v)
  before w x f (all {u = u} {v = v} s) = all (f u v s)
  before w x f (departs p {x = y} {t = t} {v = v} s d) = subst (λ (l : List ℕ). UpTo E l (x ++ v)) (append_assoc w p t) (departs (w ++ p) (f p y s) d)

  -- an x, or an X
  hex_before : (c : ℕ) (h : List ℕ) (x : ℕ) {t v : List ℕ} → IsX c
      → ((u y : List ℕ) → E u y → E (code "\\" ∷ code "x" ∷ h ++ (code ";" ∷ u)) (x ∷ y)) → UpTo E t v → UpTo E (code "\\" ∷ c ∷ h ++ (code ";" ∷ t)) (x ∷ v)
  hex_before c h x {t} {v} e f r = by_bool (eqb c (code "x"))
      (λ k. subst (λ (n : ℕ). UpTo E (code "\\" ∷ n ∷ h ++ (code ";" ∷ t)) (x ∷ v)) (sym (eqb-true c (code "x") k))
      (subst (λ (l : List ℕ). UpTo E (code "\\" ∷ code "x" ∷ l) (x ∷ v)) (append_assoc h (codes ";") t)
      (before (codes "\\x" ++ (h ++ codes ";")) (x ∷ [])
      (λ u y s. subst (λ (l : List ℕ). E (code "\\" ∷ code "x" ∷ l) (x ∷ y)) (sym (append_assoc h (codes ";") u)) (f u y s)) r)))
      (λ k. by_bool (eqb c (code "X"))
      (λ l. subst (λ (n : ℕ). UpTo E (code "\\" ∷ n ∷ h ++ (code ";" ∷ t)) (x ∷ v)) (sym (eqb-true c (code "X") l)) (at_once upper_x))
      (λ l. no_yes (rw (k, l) at e)))

  -- a line that goes on
  line_before : (w : List ℕ) {e : List ℕ} (n : List ℕ) {t v : List ℕ} → Many Intraline w → LineEnding e → indented t ≡ false
      → ((u y : List ℕ) → indented u ≡ false → E u y → E (code "\\" ∷ w ++ (code "\n" ∷ n ++ u)) y) → UpTo E t v
      → UpTo E (code "\\" ∷ w ++ (e ++ (n ++ t))) v
  line_before w n m return_newline i f r = at_once (return_ends_line w _ m)
  line_before w n m return i f r = at_once (return_ends_line w _ m)
  line_before w n m newline i f (all {u = u} {v = v} s) = all (f u v i s)
  line_before w n m newline i f (departs p {x = x} {t = t} {v = v} s d) =
      let whole : (code "\\" ∷ w ++ (code "\n" ∷ n ++ p)) ++ t ≡ code "\\" ∷ w ++ (code "\n" ∷ n ++ (p ++ t))
      = rw (append_assoc w (code "\n" ∷ n ++ p) t, append_assoc n p t) in
      subst (λ (l : List ℕ). UpTo E l v) whole (departs (code "\\" ∷ w ++ (code "\n" ∷ n ++ p)) (f p x (front p t i) s) d)

-- a <return> is a newline in the standard's string, and itself here
return_departs : {t : List ℕ} → Departure (code "\r" ∷ t)
return_departs = return_alone

pub string_up_to : {t v : List ℕ} → Elements t v → UpTo StringElements t v
string_up_to standard.Elements.no_more = all string.no_more
string_up_to (standard.Elements.itself {c = c} h s) = before StringElements string.no_more (c ∷ []) (c ∷ []) (λ u y k. string.itself h k) (string_up_to s)
string_up_to (standard.Elements.return h s) = at_once StringElements string.no_more return_departs
string_up_to (standard.Elements.return_newline s) = at_once StringElements string.no_more return_departs
string_up_to (standard.Elements.mnemonic {c = c} {x = x} m s) =
    before StringElements string.no_more (code "\\" ∷ c ∷ []) (x ∷ []) (λ u y k. string.mnemonic m k) (string_up_to s)
string_up_to (standard.Elements.doublequote s) = before StringElements string.no_more (codes "\\\"") (codes "\"") (λ u y k. string.doublequote k) (string_up_to s)
string_up_to (standard.Elements.backslash s) = before StringElements string.no_more (codes "\\\\") (codes "\\") (λ u y k. string.backslash k) (string_up_to s)
string_up_to (standard.Elements.vertical s) = before StringElements string.no_more (codes "\\|") (codes "|") (λ u y k. string.vertical k) (string_up_to s)
string_up_to (standard.Elements.goes_on w n m e i h s) =
    line_before StringElements string.no_more w n m e h (λ u y g k. string.goes_on w n m i g k) (string_up_to s)
string_up_to (standard.Elements.hex {c = c} h {x = x} e n s) = hex_before StringElements string.no_more c h x e (λ u y k. string.hex h n k) (string_up_to s)

pub symbols_up_to : {t v : List ℕ} → Symbols t v → UpTo SymbolElements t v
symbols_up_to standard.Symbols.no_more = all symbol.no_more
symbols_up_to (standard.Symbols.itself {c = c} h s) = before SymbolElements symbol.no_more (c ∷ []) (c ∷ []) (λ u y k. symbol.itself h k) (symbols_up_to s)
symbols_up_to (standard.Symbols.mnemonic {c = c} {x = x} m s) =
    before SymbolElements symbol.no_more (code "\\" ∷ c ∷ []) (x ∷ []) (λ u y k. symbol.mnemonic m k) (symbols_up_to s)
symbols_up_to (standard.Symbols.doublequote s) = before SymbolElements symbol.no_more (codes "\\\"") (codes "\"") (λ u y k. symbol.doublequote k) (symbols_up_to s)
symbols_up_to (standard.Symbols.backslash s) = before SymbolElements symbol.no_more (codes "\\\\") (codes "\\") (λ u y k. symbol.backslash k) (symbols_up_to s)
symbols_up_to (standard.Symbols.vertical s) = before SymbolElements symbol.no_more (codes "\\|") (codes "|") (λ u y k. symbol.vertical k) (symbols_up_to s)
symbols_up_to (standard.Symbols.goes_on w n m e i h s) =
    line_before SymbolElements symbol.no_more w n m e h (λ u y g k. symbol.goes_on w n m i g k) (symbols_up_to s)
symbols_up_to (standard.Symbols.hex {c = c} h {x = x} e n s) = hex_before SymbolElements symbol.no_more c h x e (λ u y k. symbol.hex h n k) (symbols_up_to s)
