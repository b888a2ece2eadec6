-- R7RS 7.1.1, what may follow a token. "<Identifier>s that do not begin with a vertical line are terminated by a <delimiter> or by the
-- end of the input. So are dot, numbers, characters, and booleans."
--   <delimiter> → <whitespace> | <vertical line> | ( | ) | " | ;
--   <whitespace> → <intraline whitespace> | <line ending>
--   <intraline whitespace> → <space or tab>
--   <line ending> → <newline> | <return> <newline> | <return>
use Rattle.std.specs.Prelude.{ℕ, ◌≡◌, Bool, true, false, List, [], ◌∷◌}
use Rattle.laws.specs.Quoted.{codes, one_of}

-- Departure: the Rust ends no token at a vertical line. `a|b|` is one identifier there, in report mode too
abbrev pub delimiters : List ℕ
delimiters = codes " \t\n\r()\";"

-- Departure: what starts with `#` ends at neither of `"` and `;`. `#t;c` is one identifier
abbrev pub hash_delimiters : List ℕ
hash_delimiters = codes " \t\n\r()"

-- In report mode a number ends at every <delimiter>. Departure: in plain mode it ends at none of `|`, `"` and `;`. `1;c` is an identifier
-- and a comment
abbrev pub number_delimiters : Bool → List ℕ
number_delimiters true = codes " \t\n\r|()\";"
number_delimiters false = codes " \t\n\r()"

-- the rest of a text that ends a token: nothing, or one of these characters and whatever follows it
pub data Ends (ks : List ℕ) : List ℕ → Type 0 where
  at_end : Ends ks []
  before : {c : ℕ} {cs : List ℕ} → one_of ks c ≡ true → Ends ks (c ∷ cs)
