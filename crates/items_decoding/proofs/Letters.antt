-- Which characters a class has: what a class says of a character, and that no character past ASCII has one of them.
use Prim.Native.Nat.{ℕ, ◌≤◌}
use mathlib.Core.Path.{◌≡◌, refl, sym, ◌∙◌}
use mathlib.Core.Bool.{true, false}
use lib.Dec.{eqb, ltb}
use borrow.Author.Tests.{eqb-true, ltb-false}
use Rattle.laws.specs.Quoted.{code, codes, one_of}
use Rattle.laws.proofs.Choice.{by_bool, if_all, if_is, impossible}
use Rattle.items.specs.declared.Quotes.{Quotes}
use Rattle.items.specs.declared.Quotes.TheVariants.{Double, Lines}
use Rattle.items.specs.Classes.{delim_of, InQuotes, in_quotes, ends, escapes, plain, AfterBackslash, after_backslash, simple, hex_x, hex_u, blank, newline, invalid}
use Rattle.items.specs.Classes.{stops_hex, InHex, in_hex, closes, digit, InTrim, in_trim, space, line, solid}
use Rattle.items_r7rs.specs.String.{intraline, Intraline}
use Rattle.items_r7rs.proofs.Classes.{beyond_differs, beyond_none}

module _ (c : ℕ) where
  -- after a backslash
  by_letter : (P : AfterBackslash → Type 0) → ((x : ℕ) → P (simple x)) → (c ≡ code "x" → P hex_x) → (c ≡ code "u" → P hex_u) → (Intraline c → P blank)
      → (c ≡ code "\n" → P newline) → P invalid → P (after_backslash c)
  unfolding after_backslash
  by_letter P s x u b n i =
      if_all P (eqb c (code "\"")) (s (code "\""))
      (if_all P (eqb c (code "a")) (s 0x07)
      (if_all P (eqb c (code "b")) (s 0x08)
      (if_all P (eqb c (code "\\")) (s (code "\\"))
      (if_all P (eqb c (code "|")) (s (code "|"))
      (if_all P (eqb c (code "t")) (s (code "\t"))
      (if_all P (eqb c (code "n")) (s (code "\n"))
      (if_all P (eqb c (code "r")) (s (code "\r"))
      (if_all P (eqb c (code "0")) (s 0x00)
      (if_is P (eqb c (code "x")) (λ e. x (eqb-true c (code "x") e)) (λ _.
      if_is P (eqb c (code "u")) (λ e. u (eqb-true c (code "u") e)) (λ _.
      if_is P (eqb c (code " ")) (λ e. b (rw e)) (λ f.
      if_is P (eqb c (code "\t")) (λ e. b (rw (f, e))) (λ _.
      if_is P (eqb c (code "\n")) (λ e. n (eqb-true c (code "\n") e)) (λ _. i))))))))))))))

  pub x_is : after_backslash c ≡ hex_x → c ≡ code "x"
  x_is e =
      by_letter (λ a. a ≡ hex_x → c ≡ code "x") (λ y f. impossible cc) (λ g _. g)
      (λ _ f. impossible cc) (λ _ f. impossible cc)
      (λ _ f. impossible cc) (λ f. impossible cc) e

  pub u_is : after_backslash c ≡ hex_u → c ≡ code "u"
  u_is e =
      by_letter (λ a. a ≡ hex_u → c ≡ code "u") (λ y f. impossible cc)
      (λ _ f. impossible cc) (λ g _. g) (λ _ f. impossible cc)
      (λ _ f. impossible cc) (λ f. impossible cc) e

  pub blank_is : after_backslash c ≡ blank → Intraline c
  blank_is e =
      by_letter (λ a. a ≡ blank → Intraline c) (λ y f. impossible cc)
      (λ _ f. impossible cc) (λ _ f. impossible cc) (λ g _. g)
      (λ _ f. impossible cc) (λ f. impossible cc) e

  pub newline_is : after_backslash c ≡ newline → c ≡ code "\n"
  newline_is e =
      by_letter (λ a. a ≡ newline → c ≡ code "\n") (λ y f. impossible cc)
      (λ _ f. impossible cc) (λ _ f. impossible cc)
      (λ _ f. impossible cc) (λ g _. g) (λ f. impossible cc) e

  -- in a line that goes on
  by_trimmed : (P : InTrim → Type 0) → (Intraline c → P space) → (one_of intraline c ≡ false → c ≡ code "\n" → P line) → (one_of intraline c ≡ false → P solid)
      → P (in_trim c)
  unfolding in_trim
  by_trimmed P s l o =
      if_is P (eqb c (code " ")) (λ e. s (rw e)) (λ f.
      if_is P (eqb c (code "\t")) (λ e. s (rw (f, e))) (λ g.
      if_is P (eqb c (code "\n")) (λ e. l (rw (f, g)) (eqb-true c (code "\n") e)) (λ _. o (rw (f, g)))))

  pub space_is : in_trim c ≡ space → Intraline c
  space_is e =
      by_trimmed (λ a. a ≡ space → Intraline c) (λ g _. g) (λ _ _ f. impossible cc)
      (λ _ f. impossible cc) e

  pub line_is : in_trim c ≡ line → (c ≡ code "\n") × (one_of intraline c ≡ false)
  line_is e =
      by_trimmed (λ a. a ≡ line → (c ≡ code "\n") × (one_of intraline c ≡ false)) (λ _ f. impossible cc)
      (λ h g _. (g, h)) (λ _ f. impossible cc) e

  pub solid_is : in_trim c ≡ solid → one_of intraline c ≡ false
  solid_is e =
      by_trimmed (λ a. a ≡ solid → one_of intraline c ≡ false) (λ _ f. impossible cc) (λ h _ _. h) (λ h _. h) e

  -- in quotes
  module _ (k : Quotes) where
    by_quoted : (P : InQuotes → Type 0) → (c ≡ delim_of k → P ends) → (c ≡ code "\\" → P escapes) → P plain → P (in_quotes k c)
    unfolding in_quotes
    by_quoted P e s p =
        if_is P (eqb c (delim_of k)) (λ f. e (eqb-true c (delim_of k) f)) (λ _.
        if_is P (eqb c (code "\\")) (λ f. s (eqb-true c (code "\\") f)) (λ _. p))

    pub ends_is : in_quotes k c ≡ ends → c ≡ delim_of k
    ends_is e =
        by_quoted (λ a. a ≡ ends → c ≡ delim_of k) (λ g _. g) (λ _ f. impossible cc)
        (λ f. impossible cc) e

    pub escapes_is : in_quotes k c ≡ escapes → c ≡ code "\\"
    escapes_is e =
        by_quoted (λ a. a ≡ escapes → c ≡ code "\\") (λ _ f. impossible cc) (λ g _. g)
        (λ f. impossible cc) e

    -- digits are closed by their closer, and begin with no brace
    pub closes_is : (closer : ℕ) → in_hex k closer c ≡ closes → c ≡ closer
    unfolding in_hex
    closes_is closer e =
        if_is (λ (a : InHex). a ≡ closes → c ≡ closer) (eqb c closer) (λ f _. eqb-true c closer f)
        (λ _. if_all (λ (a : InHex). a ≡ closes → c ≡ closer) (stops_hex c) (λ f. impossible cc)
        (if_all (λ (a : InHex). a ≡ closes → c ≡ closer) (eqb c (delim_of k)) (λ f. impossible cc)
        (λ f. impossible cc))) e

    pub no_brace : in_hex k (code ";") c ≡ digit → eqb c (code "{") ≡ false
    unfolding in_hex stops_hex
    no_brace e =
        by_bool (eqb c (code "{"))
        (λ f. let z = rw (eqb-true c (code "{") f) at e in impossible cc)
        (λ f. f)

-- ---- past ASCII

module _ (b : ℕ) (h : 0x80 ≤ b) where
  pub high_digit : (k : Quotes) (closer : ℕ) → ltb closer 0x80 ≡ true → in_hex k closer b ≡ digit
  unfolding in_hex stops_hex
  high_digit Double closer e = rw (beyond_differs b h closer e, beyond_none b h (codes ";\\\n()[]{}") refl, beyond_differs b h (code "\"") refl)
  high_digit Lines closer e = rw (beyond_differs b h closer e, beyond_none b h (codes ";\\\n()[]{}") refl, beyond_differs b h (code "|") refl)

  high_invalid : after_backslash b ≡ invalid
  unfolding after_backslash
  high_invalid =
      rw (
        beyond_differs b h (code "\"") refl,
        beyond_differs b h (code "a") refl,
        beyond_differs b h (code "b") refl,
        beyond_differs b h (code "\\") refl,
        beyond_differs b h (code "|") refl,
        beyond_differs b h (code "t") refl,
        beyond_differs b h (code "n") refl,
        beyond_differs b h (code "r") refl,
        beyond_differs b h (code "0") refl,
        beyond_differs b h (code "x") refl,
        beyond_differs b h (code "u") refl,
        beyond_differs b h (code " ") refl,
        beyond_differs b h (code "\t") refl,
        beyond_differs b h (code "\n") refl,
      )

-- an escape is ASCII
pub escape_low : (c x : ℕ) → after_backslash c ≡ simple x → ltb c 0x80 ≡ true
escape_low c x e =
    by_bool (ltb c 0x80)
    (λ f. f)
    (λ f. absurd (let y : simple x ≡ invalid = sym e ∙ high_invalid c (ltb-false c 0x80 f) in impossible cc))
