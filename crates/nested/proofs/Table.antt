-- The kinds of simple data by the table. Assumes nothing.
use Prim.Native.Nat.{ℕ, ◌≤◌, ◌<◌}
use native.Mathlib.Omega.{arith}
use mathlib.Core.Path.{◌≡◌, refl, sym, ap, ◌∙◌}
use mathlib.Core.Bool.{Bool, true, false, cond}
use lib.Dec.{eqb, leb, ltb}
use borrow.Author.Tests.{ne_eqb, le-leb, lt-leb, ltb-true, leb-true, leb-false, eqb-true, eqb-false}
use Rattle.std.specs.Prelude.{Option, None, Some}
use Rattle.std.specs.Option.{is_some}
use Rattle.std.proofs.lemmas.Option.{none-some, same_Some}
use Rattle.laws.proofs.Choice.{impossible}
use Rattle.chars.specs.Encode.{is_scalar}
use Rattle.items.specs.Kinds as kind
use Rattle.nested.specs.Items.{has_detail, sort_of, class_of, boolean, number, character, string, symbol}
use Rattle.nested.specs.Grammar.{closer}
use Rattle.nested.specs.Said.{PlainSaid, SimpleSaid, IsSimple}
use Rattle.nested.specs.declared.Class.{Class}
use Rattle.nested.specs.declared.Class.TheVariants.{Simple, Closes}

class_word : (k : ℕ) → kind.UnquoteSpliceSyntax < k → k ≤ kind.Require → class_of k 0 ≡ Simple symbol
unfolding class_of has_detail sort_of
class_word k l h = rw (
  le-leb k kind.Dot (omega arith),
  ne_eqb k kind.OpenParen (λ q. omega arith),
  ne_eqb k kind.CloseParen (λ q. omega arith),
  ne_eqb k kind.CharacterLiteral (λ q. omega arith),
  ne_eqb k kind.BooleanLiteral (λ q. omega arith),
  lt-leb k kind.UnquoteSpliceSyntax l,
  le-leb k kind.Require h,
)

class_name : (k : ℕ) → kind.BooleanLiteral < k → k ≤ kind.Keyword → class_of k 0 ≡ Simple symbol
unfolding class_of has_detail sort_of
class_name k l h = simp (
  le-leb k kind.Dot (omega arith),
  ne_eqb k kind.OpenParen (λ q. omega arith),
  ne_eqb k kind.CloseParen (λ q. omega arith),
  ne_eqb k kind.CharacterLiteral (λ q. omega arith),
  ne_eqb k kind.DatumComment (λ q. omega arith),
  ne_eqb k kind.Comment (λ q. omega arith),
  ne_eqb k kind.BooleanLiteral (λ q. omega arith),
  lt-leb k kind.UnquoteSpliceSyntax (omega arith),
  lt-leb k kind.Require (omega arith),
  le-leb k kind.Keyword h,
)

class_number : class_of kind.Number 0 ≡ Simple number
unfolding class_of has_detail sort_of
class_number = refl

class_string : class_of kind.StringLiteral 0 ≡ Simple string
unfolding class_of has_detail sort_of
class_string = refl

class_boolean : (d : ℕ) → d ≤ 1 → class_of kind.BooleanLiteral d ≡ Simple boolean
unfolding class_of has_detail sort_of
class_boolean d h = rw (le-leb d 1 h)

class_character : (d : ℕ) → is_scalar d ≡ true → class_of kind.CharacterLiteral d ≡ Simple character
unfolding class_of has_detail sort_of
class_character d h = rw h

class_close : (d : ℕ) → d ≤ kind.Curly → class_of kind.CloseParen d ≡ Closes d
unfolding class_of has_detail sort_of
class_close d h = rw (le-leb d kind.Curly h)

-- ---- what is said of a node's kind

pub no_simple_lem : (k d : ℕ) → SimpleSaid k d None
no_simple_lem k d m e = absurd (none-some m e)

pub plain_word : (k d : ℕ) (r : Option ℕ) → kind.UnquoteSpliceSyntax < k → k ≤ kind.Require → PlainSaid symbol d r → SimpleSaid k d r
plain_word k d r l h p m e = ap (λ (n : ℕ). class_of k n) (p m e).1 ∙ class_word k l h ∙ ap Simple (sym (p m e).0)

pub plain_name : (k d : ℕ) (r : Option ℕ) → kind.BooleanLiteral < k → k ≤ kind.Keyword → PlainSaid symbol d r → SimpleSaid k d r
plain_name k d r l h p m e = ap (λ (n : ℕ). class_of k n) (p m e).1 ∙ class_name k l h ∙ ap Simple (sym (p m e).0)

pub plain_number : (k d : ℕ) (r : Option ℕ) → k ≡ kind.Number → PlainSaid number d r → SimpleSaid k d r
plain_number k d r i p m e =
    ap (λ (n : ℕ). class_of n d) i ∙ ap (λ (n : ℕ). class_of kind.Number n) (p m e).1 ∙ class_number ∙ ap Simple (sym (p m e).0)

pub plain_string : (k d : ℕ) (r : Option ℕ) → k ≡ kind.StringLiteral → PlainSaid string d r → SimpleSaid k d r
plain_string k d r i p m e =
    ap (λ (n : ℕ). class_of n d) i ∙ ap (λ (n : ℕ). class_of kind.StringLiteral n) (p m e).1 ∙ class_string ∙ ap Simple (sym (p m e).0)

pub boolean_said : (k d : ℕ) → k ≡ kind.BooleanLiteral → d ≤ 1 → SimpleSaid k d (Some boolean)
boolean_said k d i h m e = ap (λ (n : ℕ). class_of n d) i ∙ class_boolean d h ∙ ap Simple (same_Some _ _ e)

pub character_said : (k d : ℕ) → k ≡ kind.CharacterLiteral → is_scalar d ≡ true → SimpleSaid k d (Some character)
character_said k d i h m e = ap (λ (n : ℕ). class_of n d) i ∙ class_character d h ∙ ap Simple (same_Some _ _ e)

pub frequent_said : (k d : ℕ) → kind.BooleanLiteral < k → k ≤ kind.StringLiteral → IsSimple (class_of k d) (eqb d 0)
frequent_said k d l h z = go (leb k kind.Keyword) (eqb k kind.Number) refl refl
  where
    at_zero : class_of k d ≡ class_of k 0
    at_zero = ap (λ (n : ℕ). class_of k n) (eqb-true d 0 z)

    go : (a b : Bool) → leb k kind.Keyword ≡ a → eqb k kind.Number ≡ b → (n : ℕ) × (class_of k d ≡ Simple n)
    go true b e q = (symbol, at_zero ∙ class_name k l (leb-true k kind.Keyword e))
    go false true e q = (number, at_zero ∙ ap (λ (n : ℕ). class_of n 0) (eqb-true k kind.Number q) ∙ class_number)
    go false false e q =
        let last : k ≡ kind.StringLiteral = omega (arith, leb-false k kind.Keyword e, eqb-false k kind.Number q) in
        (string, at_zero ∙ ap (λ (n : ℕ). class_of n 0) last ∙ class_string)

pub rare_said : (k d : ℕ) (r : Option ℕ) → SimpleSaid k d r → IsSimple (class_of k d) (is_some r)
rare_said k d None h z = impossible cc
rare_said k d (Some m) h z = (m, h m refl)

pub none_said : (c : Class) → IsSimple c false
none_said c z = impossible cc

-- ---- a close

closer_small : (s : ℕ) → closer s ≤ kind.Curly
closer_small s = go (ltb s kind.Vector) refl
  where
    go : (b : Bool) → ltb s kind.Vector ≡ b → cond b s kind.Round ≤ kind.Curly
    go true e = omega (arith, ltb-true s kind.Vector e)
    go false e = omega arith

pub closes_said : (k d s : ℕ) → k ≡ kind.CloseParen → d ≡ closer s → class_of k d ≡ Closes (closer s)
closes_said k d s e h = ap (λ (n : ℕ). class_of n d) e ∙ ap (λ (n : ℕ). class_of kind.CloseParen n) h ∙ class_close (closer s) (closer_small s)
