-- What an outcome tells of the characters of its item: how a string, a here-string and an identifier in vertical lines begin, and that
-- no other item but a word begins with `#!`. What each phase has of that stands in `Holds`; a line for each class of a character in each
-- phase then shows that a step keeps it.
use Prim.Native.Nat.{ℕ}
use mathlib.Core.Path.{◌≡◌, refl, sym, subst, ◌∙◌}
use mathlib.Core.Bool.{true, false}
use mathlib.Core.List.{List, [], ◌∷◌, ◌++◌, append_assoc}
use lib.ListN.{length}
use lib.Dec.{eqb, leb}
use borrow.Author.Tests.{eqb-true}
use Rattle.laws.specs.Quoted.{code, codes}
use Rattle.laws.specs.Texts.{begins, same}
use Rattle.laws.proofs.Choice.{by_bool, if_all, if_is, impossible}
use Rattle.chars.specs.Encode.{utf8, bytes_of, spelled}
use Rattle.items.specs.declared.Quotes.{Quotes}
use Rattle.items.specs.declared.Quotes.TheVariants.{Double, Lines}
use Rattle.items.specs.declared.Outcome.{Outcome}
use Rattle.items.specs.declared.Outcome.TheVariants.{Token, Str, HereStr, Word, Run, Lined, Keyword, Character, Error, ErrorAt}
use Rattle.items.specs.declared.Phase.{Phase}
use Rattle.items.specs.declared.Phase.TheVariants as ph
use Rattle.items.specs.declared.Next.{Next}
use Rattle.items.specs.declared.Next.TheVariants.{Eat, Stop}
use Rattle.items.specs.declared.HashKind.{HashKind}
use Rattle.items.specs.declared.HashKind.TheVariants.{Decided, Bracket, Undecided}
use Rattle.items.specs.Kinds as kind
use Rattle.items.specs.Readers.{first_is, last_is, lined_of, closed, unclosed, cut, bool_kind, quote_kind, form_kind, or_else, hash_kind}
use Rattle.items_writing.proofs.FirstLine.{other_start, other_next}

-- ---- texts that do not begin with `#!`, whatever follows them

pub data Calm : List ℕ → Type 0 where
  other : {x : ℕ} {u : List ℕ} → eqb x (code "#") ≡ false → Calm (x ∷ u)
  next : {x y : ℕ} {u : List ℕ} → eqb y (code "!") ≡ false → Calm (x ∷ y ∷ u)

pub calm_on : (w : List ℕ) {v : List ℕ} → Calm v → Calm (v ++ w)
calm_on w (other e) = other e
calm_on w (next e) = next e

pub calm_line : {v : List ℕ} → Calm v → begins (codes "#!") v ≡ false
calm_line (other {x = x} {u = u} e) = other_start x u e
calm_line (next {x = x} {y = y} {u = u} e) = other_next x y u e

-- ---- what an outcome tells

abbrev pub Starts : List ℕ → List ℕ → Type 0
Starts p v = (u : List ℕ) × (v ≡ p ++ u)

abbrev pub NoText : ℕ → Type 0
NoText k = ((eqb k kind.Identifier ≡ false) × (eqb k kind.StringLiteral ≡ false)) × ((eqb k kind.Keyword ≡ false) × (leb k kind.Dot ≡ true))

abbrev pub Known : List ℕ → Outcome → Type 0
Known v (Token k d) = NoText k × Calm v
Known v Str = Starts (codes "\"") v
Known v HereStr = Starts (codes "#<<") v
Known v Word = Unit {0}
Known v Run = Calm v
Known v Lined = first_is (code "|") (bytes_of v) ≡ true
Known v Keyword = Calm v
Known v Character = Calm v
Known v (Error n d) = Unit {0}
Known v (ErrorAt n d a b) = Unit {0}

abbrev pub InQuoted : List ℕ → Quotes → Type 0
InQuoted v Double = Starts (codes "\"") v
InQuoted v Lines = Unit {0}

-- two characters or more
abbrev pub Two : List ℕ → Type 0
Two v = (x : ℕ) × ((y : ℕ) × ((u : List ℕ) × (v ≡ x ∷ y ∷ u)))

-- what is known in a phase, of the characters so far
abbrev pub Holds : List ℕ → Phase → Type 0
Holds v ph.InLine = Calm v
Holds v ph.AfterComma = v ≡ codes ","
Holds v ph.AfterHash = v ≡ codes "#"
Holds v ph.AfterAngle = v ≡ codes "#<"
Holds v ph.HereDelim = Starts (codes "#<<") v
Holds v ph.HereStart = Starts (codes "#<<") v
Holds v ph.HereBody = Starts (codes "#<<") v
Holds v ph.InWord = Unit {0}
Holds v ph.WordEscape = Unit {0}
Holds v ph.InRun = Calm v
Holds v ph.InHash = Two v
Holds v ph.HashEscape = Two v
Holds v ph.HashTick = Two v
Holds v ph.HashComma = Two v
Holds v (ph.Nest d) = Calm v
Holds v (ph.NestBar d) = Calm v
Holds v (ph.NestSharp d) = Calm v
Holds v (ph.Quoted k) = InQuoted v k
Holds v (ph.Closed k) = InQuoted v k
Holds v (ph.TrimBefore k) = InQuoted v k
Holds v (ph.TrimAfter k) = InQuoted v k
Holds v (ph.Escape k from) = InQuoted v k
Holds v (ph.Brace k from) = InQuoted v k
Holds v (ph.Hex k closer from n) = InQuoted v k
Holds v (ph.Done o) = Known v o

abbrev pub Goes : List ℕ → ℕ → Next → Type 0
Goes v c (Eat q) = Holds (v ++ (c ∷ [])) q
Goes v c (Stop o) = Known v o

-- ---- a character more

pub starts_on : (p : List ℕ) (c : ℕ) {v : List ℕ} → Starts p v → Starts p (v ++ (c ∷ []))
starts_on p c s = (s.0 ++ (c ∷ []), rw s.1 (append_assoc p s.0 (c ∷ [])))

pub quoted_on : (k : Quotes) (v : List ℕ) (c : ℕ) → InQuoted v k → InQuoted (v ++ (c ∷ [])) k
quoted_on Double v c h = starts_on (codes "\"") c h
quoted_on Lines v c h = tt

pub two_on : (c : ℕ) {v : List ℕ} → Two v → Two (v ++ (c ∷ []))
two_on c t = (t.0, (t.1.0, (t.1.1.0 ++ (c ∷ []), rw t.1.1.1)))

-- ---- words that start with `#`

-- what their bytes decide: an item with no text, a keyword, a character or an error
abbrev Kindly : Outcome → Type 0
Kindly (Token k d) = NoText k
Kindly Str = ⊥
Kindly HereStr = ⊥
Kindly Word = ⊥
Kindly Run = ⊥
Kindly Lined = ⊥
Kindly Keyword = Unit {0}
Kindly Character = Unit {0}
Kindly (Error n d) = Unit {0}
Kindly (ErrorAt n d a b) = Unit {0}

abbrev KindlyAll : HashKind → Type 0
KindlyAll (Decided o) = Kindly o
KindlyAll (Bracket d) = Unit {0}
KindlyAll Undecided = Unit {0}

kindly_bool : (raw : List ℕ) → KindlyAll (bool_kind raw)
unfolding bool_kind
kindly_bool raw =
    let P : HashKind → Type 0 = KindlyAll in
    if_all P (same raw (spelled "#true")) ((refl, refl), (refl, refl)) (if_all P (same raw (spelled "#t")) ((refl, refl), (refl, refl))
    (if_all P (same raw (spelled "#false")) ((refl, refl), (refl, refl)) (if_all P (same raw (spelled "#f")) ((refl, refl), (refl, refl)) tt)))

kindly_quote : (raw : List ℕ) → KindlyAll (quote_kind raw)
unfolding quote_kind
kindly_quote raw =
    let P : HashKind → Type 0 = KindlyAll in
    if_all P (same raw (spelled "#'")) ((refl, refl), (refl, refl)) (if_all P (same raw (spelled "#`")) ((refl, refl), (refl, refl))
    (if_all P (same raw (spelled "#,")) ((refl, refl), (refl, refl)) (if_all P (same raw (spelled "#,@")) ((refl, refl), (refl, refl)) tt)))

kindly_form : (raw : List ℕ) → KindlyAll (form_kind raw)
unfolding form_kind
kindly_form raw =
    let P : HashKind → Type 0 = KindlyAll in
    if_all P (begins (spelled "#:") raw) tt
    (if_all P (begins (spelled "#\\") raw) (if_all P (leb (length raw) 2) tt tt)
    (if_all P (same raw (spelled "#")) tt (if_all P (same raw (spelled "#u8")) tt tt)))

kindly_else : (j k : HashKind) → KindlyAll j → KindlyAll k → KindlyAll (or_else j k)
kindly_else (Decided o) k p q = p
kindly_else (Bracket d) k p q = p
kindly_else Undecided k p q = q

kindly : (raw : List ℕ) → KindlyAll (hash_kind raw)
unfolding hash_kind
kindly raw = kindly_else (bool_kind raw) (or_else (quote_kind raw) (form_kind raw)) (kindly_bool raw) (kindly_else (quote_kind raw) (form_kind raw) (kindly_quote raw) (kindly_form raw))

-- a word that begins with `#!` is none of these
line_undecided : (u : List ℕ) → hash_kind (bytes_of (code "#" ∷ code "!" ∷ u)) ≡ Undecided
unfolding hash_kind bool_kind quote_kind form_kind same begins bytes_of utf8
line_undecided u = refl

pub two_calm : {v : List ℕ} → Two v → (hash_kind (bytes_of v) ≡ Undecided → ⊥) → Calm v
two_calm {v} t h =
    let x : ℕ = t.0 in
    let y : ℕ = t.1.0 in
    let u : List ℕ = t.1.1.0 in
    let e : v ≡ x ∷ y ∷ u = t.1.1.1 in
    subst Calm (sym e) (by_bool (eqb x (code "#"))
    (λ f. by_bool (eqb y (code "!"))
    (λ g. let z : v ≡ code "#" ∷ code "!" ∷ u = e ∙ rw (eqb-true x (code "#") f, eqb-true y (code "!") g) in
    absurd (h (rw z (line_undecided u))))
    (λ g. next g))
    (λ f. other f))

known_kindly : (o : Outcome) {v : List ℕ} → Kindly o → Calm v → Known v o
known_kindly (Token k d) h c = (h, c)
known_kindly Str h c = absurd h
known_kindly HereStr h c = absurd h
known_kindly Word h c = absurd h
known_kindly Run h c = absurd h
known_kindly Lined h c = absurd h
known_kindly Keyword h c = c
known_kindly Character h c = c
known_kindly (Error n d) h c = tt
known_kindly (ErrorAt n d a b) h c = tt

pub decided : (o : Outcome) {v : List ℕ} → Two v → hash_kind (bytes_of v) ≡ Decided o → Known v o
decided o {v} t e =
    let k : KindlyAll (Decided o) = subst KindlyAll e (kindly (bytes_of v)) in
    known_kindly o k (two_calm t (λ f. impossible cc))

pub lone_open : hash_kind (bytes_of (codes "#")) ≡ Bracket kind.Vector
unfolding hash_kind bool_kind quote_kind form_kind same begins bytes_of utf8
lone_open = refl

-- ---- vertical lines

known_lined : (v : List ℕ) → Known v (lined_of (bytes_of v))
unfolding lined_of
known_lined v =
    let raw : List ℕ = bytes_of v in
    let P : Outcome → Type 0 = Known v in
    if_all P (leb (length raw) 1) tt
    (if_all P (first_is (code "+") raw) tt
    (if_is P (first_is (code "|") raw) (λ e. if_all P (last_is (code "|") raw) e tt) (λ e. tt)))

pub known_closed : (k : Quotes) (v : List ℕ) → InQuoted v k → Known v (closed k (bytes_of v))
known_closed Double v h = h
known_closed Lines v h = known_lined v

pub known_unclosed : (k : Quotes) (v : List ℕ) → Known v (unclosed k (bytes_of v))
known_unclosed Double v = tt
known_unclosed Lines v = known_lined v

pub known_cut : (k : Quotes) (v : List ℕ) → Known v (cut k)
known_cut Double v = tt
known_cut Lines v = tt
