-- Texts that are whole characters: what is between quotes, with its escapes decoded, is whole characters where the item is.
use Rattle.std.proofs.Common.{Ok, Err}
use Prim.Native.Nat.{ℕ}
use mathlib.Core.Path.{◌≡◌, refl, sym, ap, subst, ◌∙◌}
use mathlib.Core.Bool.{Bool, true, false}
use mathlib.Core.List.{List, [], ◌∷◌, ◌++◌, append_assoc, append-nil}
use lib.Dec.{eqb, ltb}
use Rattle.laws.specs.Quoted.{code, codes, within}
use Rattle.laws.proofs.Choice.{by_bool, if_all, impossible}
use Rattle.chars.specs.Encode.{is_scalar, utf8, encode, bytes_of}
use Rattle.chars.proofs.Good.{Scalars}
use Rattle.digits.specs.Hex.{hex_value, Hex}
use Rattle.items.specs.declared.Quotes.{Quotes}
use Rattle.items.specs.declared.Quotes.TheVariants.{Double, Lines}
use Rattle.items.specs.Classes.{delim_of, in_quotes, AfterBackslash, after_backslash, simple, hex_x, hex_u, blank, newline, invalid}
use Rattle.items.specs.Classes.{in_hex, stops_hex, digit, in_trim, solid}
use Rattle.items.specs.Meaning.{unescape, unescape_next, unescape_brace, unescape_hex, unescape_trim}
use Rattle.items.specs.Readers.{scalar_of}
use Rattle.items.proofs.Cases.{by_quotes, by_backslash, by_hex, by_trim, by_value}
use Rattle.items_r7rs.specs.Repeated.{Many, done, more}
use Rattle.items_r7rs.proofs.Bytes.{High, Beyond, all_high, utf8_low, utf8_high}
use Rattle.items_r7rs.proofs.Classes.{beyond_differs, beyond_none}
use Rattle.items_r7rs.proofs.Unescaped.{high_plain, beyond_bytes, high_bytes}

-- bytes that are whole characters
abbrev pub Texty : List ℕ → Type 0
Texty bs = (v : List ℕ) × ((bs ≡ bytes_of v) × Scalars v)

pub texty_none : Texty []
unfolding bytes_of
texty_none = ([], (refl, tt))

pub texty_more : (c : ℕ) {bs : List ℕ} → is_scalar c ≡ true → Texty bs → Texty (utf8 c ++ bs)
unfolding bytes_of
texty_more c h t = (c ∷ t.0, (ap (λ (l : List ℕ). utf8 c ++ l) t.1.0, (h, t.1.1)))

-- an ASCII character is its byte
pub texty_ascii : (c : ℕ) {bs : List ℕ} → ltb c 0x80 ≡ true → is_scalar c ≡ true → Texty bs → Texty (c ∷ bs)
texty_ascii c {bs} l h t = subst (λ (x : List ℕ). Texty (x ++ bs)) (utf8_low c l) (texty_more c h t)

-- ---- the characters that escapes stand for

scalar_is : (h : Hex) (v : ℕ) → scalar_of h ≡ Ok v → is_scalar v ≡ true
unfolding scalar_of
scalar_is (Ok x) v e = by_bool (is_scalar x)
    (λ f. let z : Ok x ≡ Ok v = rw f at e in let y : x ≡ v = cc in rw (← y) f)
    (λ f. let z = rw f at e in impossible cc)
scalar_is (Err w) v e = impossible cc

abbrev SimpleAscii : AfterBackslash → Type 0
SimpleAscii (simple x) = (ltb x 0x80 ≡ true) × (is_scalar x ≡ true)
SimpleAscii hex_x = Unit {0}
SimpleAscii hex_u = Unit {0}
SimpleAscii blank = Unit {0}
SimpleAscii newline = Unit {0}
SimpleAscii invalid = Unit {0}

simple_ascii : (c : ℕ) → SimpleAscii (after_backslash c)
unfolding after_backslash is_scalar within
simple_ascii c =
    let P : AfterBackslash → Type 0 = SimpleAscii in
    if_all P (eqb c (code "\"")) (refl, refl) (if_all P (eqb c (code "a")) (refl, refl) (if_all P (eqb c (code "b")) (refl, refl)
    (if_all P (eqb c (code "\\")) (refl, refl) (if_all P (eqb c (code "|")) (refl, refl) (if_all P (eqb c (code "t")) (refl, refl)
    (if_all P (eqb c (code "n")) (refl, refl) (if_all P (eqb c (code "r")) (refl, refl) (if_all P (eqb c (code "0")) (refl, refl)
    (if_all P (eqb c (code "x")) tt (if_all P (eqb c (code "u")) tt (if_all P (eqb c (code " ")) tt (if_all P (eqb c (code "\t")) tt
    (if_all P (eqb c (code "\n")) tt tt)))))))))))))

pub nothing_bytes : bytes_of [] ≡ []
unfolding bytes_of
nothing_bytes = refl

encoded : (v : ℕ) → is_scalar v ≡ true → encode v ≡ utf8 v
unfolding encode
encoded v h = rw h

-- ---- bytes past ASCII, where they stand

module _ (k : Quotes) (b : ℕ) (h : High b) where
  not_one : (x : ℕ) → ltb x 0x80 ≡ true → eqb b x ≡ false
  not_one x e = beyond_differs b h x e

  delim_low : ltb (delim_of k) 0x80 ≡ true
  delim_low = elim k as (λ q. ltb (delim_of q) 0x80 ≡ true) [ Double ↦ refl | Lines ↦ refl ]

  high_invalid : after_backslash b ≡ invalid
  unfolding after_backslash
  high_invalid =
      rw (
        not_one (code "\"") refl,
        not_one (code "a") refl,
        not_one (code "b") refl,
        not_one (code "\\") refl,
        not_one (code "|") refl,
        not_one (code "t") refl,
        not_one (code "n") refl,
        not_one (code "r") refl,
        not_one (code "0") refl,
        not_one (code "x") refl,
        not_one (code "u") refl,
        not_one (code " ") refl,
        not_one (code "\t") refl,
        not_one (code "\n") refl,
      )

  high_digit : (closer : ℕ) → ltb closer 0x80 ≡ true → in_hex k closer b ≡ digit
  unfolding in_hex stops_hex
  high_digit closer e = rw (not_one closer e, beyond_none b h (codes ";\\\n()[]{}") refl, not_one (delim_of k) delim_low)

  high_solid : in_trim b ≡ solid
  unfolding in_trim
  high_solid = rw (not_one (code " ") refl, not_one (code "\t") refl, not_one (code "\n") refl)

-- what comes of one character: an ASCII one by its class, any other by what its bytes do
pub split : (c : ℕ) (t : List ℕ) (P : List ℕ → Type 0) → (ltb c 0x80 ≡ true → P (c ∷ bytes_of t)) → (Beyond (utf8 c) → P (utf8 c ++ bytes_of t)) → P (bytes_of (c ∷ t))
unfolding bytes_of
split c t P f g = by_bool (ltb c 0x80)
    (λ l. subst (λ (x : List ℕ). P (x ++ bytes_of t)) (sym (utf8_low c l)) (f l))
    (λ l. g (utf8_high c l))

module _ (k : Quotes) where
  next_high : (r : List ℕ) {bs : List ℕ} → Beyond bs → unescape_next k (bs ++ r) ≡ []
  unfolding unescape
  next_high r (all_high {b = b} h m) = rw (high_invalid k b h, unescape_next)

  hex_highs : (closer : ℕ) (ds r : List ℕ) {bs : List ℕ} → ltb closer 0x80 ≡ true → Many High bs → unescape_hex k closer ds (bs ++ r) ≡ unescape_hex k closer (ds ++ bs) r
  unfolding unescape
  hex_highs closer ds r e done = rw (append-nil ds)
  hex_highs closer ds r e (more {c = b} {t = bs} h m) = rw (high_digit k b h closer e, unescape_hex) (hex_highs closer (ds ++ (b ∷ [])) r e m ∙ rw (append_assoc ds (b ∷ []) bs))

  hex_high : (closer : ℕ) (ds r : List ℕ) {bs : List ℕ} → ltb closer 0x80 ≡ true → Beyond bs → unescape_hex k closer ds (bs ++ r) ≡ unescape_hex k closer (ds ++ bs) r
  hex_high closer ds r e (all_high h m) = hex_highs closer ds r e (more h m)

  brace_high : (r : List ℕ) {bs : List ℕ} → Beyond bs → unescape_brace k (bs ++ r) ≡ unescape_hex k (code ";") bs r
  unfolding unescape
  brace_high r (all_high {b = b} {bs = bs} h m) = rw (not_one k b h (code "{") refl, unescape_brace) (rw (high_digit k b h (code ";") refl) (hex_highs (code ";") (b ∷ []) r refl m))

  trim_high : (seen : Bool) (r : List ℕ) {bs : List ℕ} → Beyond bs → unescape_trim k seen (bs ++ r) ≡ bs ++ unescape k r
  unfolding unescape
  trim_high seen r (all_high {b = b} {bs = bs} h m) = rw (high_solid k b h, unescape_trim) (rw (high_plain k b h) (ap (λ (l : List ℕ). b ∷ l) (high_bytes k r m)))

  mutual
    unfolding unescape

    pub quoted_texty : (t : List ℕ) → Scalars t → Texty (unescape k (bytes_of t))
    quoted_texty [] h = rw nothing_bytes texty_none
    quoted_texty (c ∷ t) h = split c t (λ (l : List ℕ). Texty (unescape k l))
        (λ l. by_quotes (in_quotes k c)
        (λ e. rw (e, unescape) texty_none)
        (λ e. rw (e, unescape) (next_texty t h.1))
        (λ e. rw (e, unescape) (texty_ascii c l h.0 (quoted_texty t h.1))))
        (λ b. rw (beyond_bytes k (bytes_of t) b) (texty_more c h.0 (quoted_texty t h.1)))

    next_texty : (t : List ℕ) → Scalars t → Texty (unescape_next k (bytes_of t))
    next_texty [] h = rw nothing_bytes texty_none
    next_texty (c ∷ t) h = split c t (λ (l : List ℕ). Texty (unescape_next k l))
        (λ l. by_backslash (after_backslash c)
        (λ x e. rw (e, unescape_next) (let a : SimpleAscii (simple x) = subst SimpleAscii e (simple_ascii c) in texty_ascii x a.0 a.1 (quoted_texty t h.1)))
        (λ e. rw (e, unescape_next) (hex_texty t (code ";") [] refl h.1))
        (λ e. rw (e, unescape_next) (brace_texty t h.1))
        (λ e. rw (e, unescape_next) (trim_texty t false h.1))
        (λ e. rw (e, unescape_next) (trim_texty t true h.1))
        (λ e. rw (e, unescape_next) texty_none))
        (λ b. rw (next_high (bytes_of t) b) texty_none)

    brace_texty : (t : List ℕ) → Scalars t → Texty (unescape_brace k (bytes_of t))
    brace_texty [] h = rw nothing_bytes texty_none
    brace_texty (c ∷ t) h = split c t (λ (l : List ℕ). Texty (unescape_brace k l))
        (λ l. by_bool (eqb c (code "{"))
        (λ e. rw (e, unescape_brace) (hex_texty t (code "}") [] refl h.1))
        (λ e. rw (e, unescape_brace) (by_hex (in_hex k (code ";") c)
        (λ f. rw f texty_none)
        (λ f. rw f texty_none)
        (λ f. rw f (hex_texty t (code ";") (c ∷ []) refl h.1)))))
        (λ b. rw (brace_high (bytes_of t) b) (hex_texty t (code ";") (utf8 c) refl h.1))

    hex_texty : (t : List ℕ) (closer : ℕ) (ds : List ℕ) → ltb closer 0x80 ≡ true → Scalars t → Texty (unescape_hex k closer ds (bytes_of t))
    hex_texty [] closer ds q h = rw nothing_bytes texty_none
    hex_texty (c ∷ t) closer ds q h = split c t (λ (l : List ℕ). Texty (unescape_hex k closer ds l))
        (λ l. by_hex (in_hex k closer c)
        (λ e. rw (e, unescape_hex) (by_value (scalar_of (hex_value ds))
        (λ v f. rw f (let s : is_scalar v ≡ true = scalar_is (hex_value ds) v f in rw (encoded v s) (texty_more v s (quoted_texty t h.1))))
        (λ n d f. rw f texty_none)
        (λ n d p f. rw f texty_none)))
        (λ e. rw (e, unescape_hex) texty_none)
        (λ e. rw (e, unescape_hex) (hex_texty t closer (ds ++ (c ∷ [])) q h.1)))
        (λ b. rw (hex_high closer ds (bytes_of t) q b) (hex_texty t closer (ds ++ utf8 c) q h.1))

    trim_texty : (t : List ℕ) (seen : Bool) → Scalars t → Texty (unescape_trim k seen (bytes_of t))
    trim_texty [] seen h = rw nothing_bytes texty_none
    trim_texty (c ∷ t) seen h = split c t (λ (l : List ℕ). Texty (unescape_trim k seen l))
        (λ l. by_trim (in_trim c)
        (λ e. rw (e, unescape_trim) (trim_texty t seen h.1))
        (λ e. rw (e, unescape_trim) (by_bool seen
        (λ f. rw f (texty_ascii c l h.0 (quoted_texty t h.1)))
        (λ f. rw f (trim_texty t true h.1))))
        (λ e. rw (e, unescape_trim) (by_quotes (in_quotes k c)
        (λ f. rw f texty_none)
        (λ f. rw f (next_texty t h.1))
        (λ f. rw f (texty_ascii c l h.0 (quoted_texty t h.1))))))
        (λ b. rw (trim_high seen (bytes_of t) b) (texty_more c h.0 (quoted_texty t h.1)))
