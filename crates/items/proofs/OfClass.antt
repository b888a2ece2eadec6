-- Which character one of a class is, where the class has only one: what closes quotes or an escape's digits, a backslash, the letters after it, and
-- what follows `#`. A digit is none of those that break digits off.
use Prim.Native.Nat.{ℕ}
use mathlib.Core.Path.{◌≡◌}
use mathlib.Core.Bool.{false}
use lib.Dec.{eqb}
use borrow.Author.Tests.{eqb-true}
use Rattle.laws.specs.Quoted.{code, codes, one_of}
use Rattle.laws.proofs.Choice.{if_all, if_is}
use Rattle.items.specs.declared.Quotes.{Quotes}
use Rattle.items.specs.Classes.{delim_of, InQuotes, in_quotes, ends, escapes, plain}
use Rattle.items.specs.Classes.{AfterBackslash, after_backslash, simple, hex_x, hex_u, blank, newline, invalid}
use Rattle.items.specs.Classes.{InHex, stops_hex, in_hex, closes, stops, digit}
use Rattle.items.specs.Classes.{AfterHash, after_hash, radix, opens_nest, datum, twice, angle, value}

abbrev pub OfQuotes : Quotes → ℕ → InQuotes → Type 0
OfQuotes k c ends = c ≡ delim_of k
OfQuotes k c escapes = c ≡ code "\\"
OfQuotes k c plain = Unit {0}

pub of_quotes : (k : Quotes) (c : ℕ) → OfQuotes k c (in_quotes k c)
unfolding in_quotes
of_quotes k c =
    let P : InQuotes → Type 0 = OfQuotes k c in
    if_is P (eqb c (delim_of k)) (λ e. eqb-true c (delim_of k) e) (λ _. if_is P (eqb c (code "\\")) (λ e. eqb-true c (code "\\") e) (λ _. tt))

abbrev pub OfBackslash : ℕ → AfterBackslash → Type 0
OfBackslash c (simple x) = Unit {0}
OfBackslash c hex_x = c ≡ code "x"
OfBackslash c hex_u = c ≡ code "u"
OfBackslash c blank = Unit {0}
OfBackslash c newline = Unit {0}
OfBackslash c invalid = Unit {0}

pub of_backslash : (c : ℕ) → OfBackslash c (after_backslash c)
unfolding after_backslash
of_backslash c =
    let P : AfterBackslash → Type 0 = OfBackslash c in
    if_all P (eqb c (code "\"")) tt (if_all P (eqb c (code "a")) tt (if_all P (eqb c (code "b")) tt (if_all P (eqb c (code "\\")) tt
    (if_all P (eqb c (code "|")) tt (if_all P (eqb c (code "t")) tt (if_all P (eqb c (code "n")) tt (if_all P (eqb c (code "r")) tt
    (if_all P (eqb c (code "0")) tt
    (if_is P (eqb c (code "x")) (λ e. eqb-true c (code "x") e)
    (λ _. if_is P (eqb c (code "u")) (λ e. eqb-true c (code "u") e)
    (λ _. if_all P (eqb c (code " ")) tt (if_all P (eqb c (code "\t")) tt (if_all P (eqb c (code "\n")) tt tt)))))))))))))

abbrev pub OfHex : ℕ → ℕ → InHex → Type 0
OfHex closer c closes = c ≡ closer
OfHex closer c stops = Unit {0}
OfHex closer c digit = stops_hex c ≡ false

pub of_hex : (k : Quotes) (closer c : ℕ) → OfHex closer c (in_hex k closer c)
unfolding in_hex
of_hex k closer c =
    let P : InHex → Type 0 = OfHex closer c in
    if_is P (eqb c closer) (λ e. eqb-true c closer e)
    (λ _. if_is P (stops_hex c) (λ _. tt) (λ f. if_all P (eqb c (delim_of k)) tt f))

abbrev pub OfHash : ℕ → AfterHash → Type 0
OfHash c radix = Unit {0}
OfHash c opens_nest = c ≡ code "|"
OfHash c datum = c ≡ code ";"
OfHash c twice = Unit {0}
OfHash c angle = c ≡ code "<"
OfHash c value = Unit {0}

pub of_hash : (c : ℕ) → OfHash c (after_hash c)
unfolding after_hash
of_hash c =
    let P : AfterHash → Type 0 = OfHash c in
    if_all P (one_of (codes "xXdDoObB") c) tt (if_is P (eqb c (code "|")) (λ e. eqb-true c (code "|") e) (λ _.
    if_is P (eqb c (code ";")) (λ e. eqb-true c (code ";") e) (λ _. if_all P (eqb c (code "#")) tt
    (if_is P (eqb c (code "<")) (λ e. eqb-true c (code "<") e) (λ _. tt)))))
