-- Every outcome comes of its item's bytes. After `,`, `#` and `#<` the bytes are these, a here-string begins with `#<<`, and what is in
-- double quotes with one; the rest is asked of the bytes.
use Rattle.items.specs.declared.Outcome.TheVariants.{Token}
use Rattle.items.specs.declared.Quotes.{Quotes}
use Rattle.items.specs.Classes.{starts_run, First, first_of}
use Rattle.items.specs.Kinds as kind
use Rattle.items.specs.Machine.{on_first}
use Rattle.items.specs.Readers.{SoFar, eat, read_item}
use Rattle.items.proofs.Phases.{Knows, KnownIn}
use Rattle.items.proofs.Walk.{WalkEnds, WalkSteps, walk_read}
use Rattle.laws.specs.Quoted.{code}
use Rattle.laws.specs.Texts.{begins}
use Rattle.laws.proofs.Choice.{if_all, if_is}
use Rattle.chars.specs.Encode.{utf8, bytes_of, spelled}
use Rattle.items_numbers.proofs.Spelled.{Spelled, open_round, open_square_case, open_curly_case, close_round, close_square_case, close_curly_case, quote_tick, quasi_quote, unquote}
use Rattle.items_numbers.proofs.Spelled.{unquote_splice, datum_comment, Comes, token, comment, string, here_string, word, run, lined, error, error_at, Opened}
use Rattle.items_numbers.proofs.Spelled.{begins_on, opened_on, kind_hash}
use Prim.Native.Nat.{ℕ}
use mathlib.Core.Path.{◌≡◌, refl, sym, ap, subst}
use mathlib.Core.Bool.{Bool, true}
use mathlib.Core.List.{List, ◌++◌}
use lib.Dec.{eqb}
use borrow.Author.Tests.{eqb-true}

-- what is known in a phase, with the bytes so far
abbrev knows : List ℕ → Knows
knows raw = record {
  comma = raw ≡ spelled ",";
  hash = raw ≡ spelled "#";
  angle = raw ≡ spelled "#<";
  here = begins (spelled "#<<") raw ≡ true;
  bracket = λ d. Spelled (raw ++ utf8 (code "(")) kind.OpenParen d;
  nest = λ d. Unit {0};
  quoted = λ k. Opened k raw;
  closed = λ k. Opened k raw;
  escape = λ k from. Opened k raw;
  brace = λ k from. Opened k raw;
  digits = λ k closer from m. Opened k raw;
  done = Comes raw;
}

-- bytes that are known, with a token's spelling
respelled : {raw w : List ℕ} {k d : ℕ} → raw ≡ w → Spelled w k d → Comes raw (Token k d)
respelled {k = k} {d = d} e s = token (subst (λ (l : List ℕ). Spelled l k d) (sym e) s)

over : (raw : List ℕ) → WalkEnds (knows raw) raw (Comes raw)
over raw = record {
  word = word;
  run = run;
  comment = comment;
  unquote = λ h. respelled h unquote;
  here = λ h _. here_string h;
  string = string;
  lined = λ _ _. lined;
  open_string = error;
  open_lined = error;
  open_nest = λ _ _. error;
  decided = kind_hash raw;
  done = λ _ h. h;
}

module _ (i : SoFar) (c : ℕ) where
  -- the item so far and this character
  with_char : (w : List ℕ) (x : ℕ) → i.bytes ≡ w → c ≡ x → (eat i c).bytes ≡ w ++ utf8 x
  with_char w x h e = rw (h, e)

  still : (k : Quotes) → Opened k i.bytes → Opened k (eat i c).bytes
  still k h = opened_on k i.bytes (utf8 c) h

  splices : i.bytes ≡ spelled "," → c ≡ code "@" → (eat i c).bytes ≡ spelled ",@"
  unfolding bytes_of utf8
  splices h e = with_char (spelled ",") (code "@") h e

  comments : i.bytes ≡ spelled "#" → c ≡ code ";" → (eat i c).bytes ≡ spelled "#;"
  unfolding bytes_of utf8
  comments h e = with_char (spelled "#") (code ";") h e

  angle : i.bytes ≡ spelled "#" → c ≡ code "<" → (eat i c).bytes ≡ spelled "#<"
  unfolding bytes_of utf8
  angle h e = with_char (spelled "#") (code "<") h e

  angles : i.bytes ≡ spelled "#<" → c ≡ code "<" → begins (spelled "#<<") (eat i c).bytes ≡ true
  unfolding begins bytes_of utf8
  angles h e = rw (with_char (spelled "#<") (code "<") h e)

  on : (report : Bool) → WalkSteps report i c (knows i.bytes) (knows (eat i c).bytes) (Comes i.bytes)
  on report = record {
    comment = comment;
    splice = λ h e. respelled (splices h e) unquote_splice;
    datum = λ h e. respelled (comments h e) datum_comment;
    bracket = λ d h e. respelled (with_char i.bytes (code "(") refl e) h;
    unexpected = error;
    opens_nest_holds = λ _ _. tt;
    nest = λ _ _ _ _. tt;
    carries = record {
      angle = angle;
      opens_here = angles;
      here = begins_on (spelled "#<<") i.bytes (utf8 c);
      opens_lined = λ _. tt;
      quoted = still;
      escaped = λ k _ h. still k h;
      scalar = λ k _ _ _ h. still k h;
    };
    ends = λ k h _. still k h;
    escapes = λ k h _. still k h;
    solid = λ _ _. error_at;
    invalid = λ _ _ _. error_at;
    hex_x = λ k _ h _. still k h;
    hex_u = λ k _ h _. still k h;
    braced = λ k _ h _. still k h;
    unbraced = λ _ _ h. h;
    digit = λ k _ _ _ h _. still k h;
    unclosed = λ _ _ _ _ _. error_at;
    no_scalar = λ _ _ _ _ _ _ _. error_at;
    fails = λ _ _ _ _ _ _ _ _ _ _ _. if_all (Comes (eat i c).bytes) report error_at error_at;
  }

-- ---- the start, and the whole item

alone : (c : ℕ) {k d : ℕ} (x : ℕ) → Spelled (utf8 x) k d → eqb c x ≡ true → Comes (utf8 c) (Token k d)
alone c {k} {d} x s e = token (subst (λ (l : List ℕ). Spelled l k d) (sym (ap utf8 (eqb-true c x e))) s)

first_holds : (c : ℕ) → KnownIn (knows (utf8 c)) (on_first (first_of c))
unfolding first_of bytes_of utf8
first_holds c =
    let P : First → Type 0 = λ f. KnownIn (knows (utf8 c)) (on_first f) in
    let is : (x : ℕ) → eqb c x ≡ true → utf8 c ≡ utf8 x = λ x e. ap utf8 (eqb-true c x e) in
    if_all P (eqb c (code ";")) tt (if_is P (eqb c (code "\"")) (λ e. rw (is (code "\"") e)) (λ a. if_is P (eqb c (code ",")) (is (code ",")) (λ b.
    if_is P (eqb c (code "#")) (is (code "#")) (λ d.
    if_is P (eqb c (code "(")) (alone c (code "(") open_round) (λ e. if_is P (eqb c (code "[")) (alone c (code "[") open_square_case) (λ f.
    if_is P (eqb c (code "{")) (alone c (code "{") open_curly_case) (λ g. if_is P (eqb c (code ")")) (alone c (code ")") close_round) (λ h.
    if_is P (eqb c (code "]")) (alone c (code "]") close_square_case) (λ i. if_is P (eqb c (code "}")) (alone c (code "}") close_curly_case) (λ j.
    if_is P (eqb c (code "'")) (alone c (code "'") quote_tick) (λ k. if_is P (eqb c (code "`")) (alone c (code "`") quasi_quote) (λ l.
    if_all P (starts_run c) tt (if_all P (eqb c (code "|")) tt (if_all P (eqb c (code "\\")) tt tt))))))))))))))

pub read_comes : (report : Bool) (at c : ℕ) (cs : List ℕ) → Comes (read_item report at c cs).item.bytes (read_item report at c cs).what
read_comes report at c cs =
    walk_read report (λ i. knows i.bytes) (λ i. Comes i.bytes) (λ _ _. Unit {0}) (λ i _ _. over i.bytes) (λ i c _ _. (on i c report, tt)) at c cs
    (first_holds c) tt
