-- One walk over the machine, for every law that each step of it keeps. What is known in a phase before a character (`Knows`) gives what is known
-- after it, or what the outcome says; a law gives the few cases where this bites, `WalkSteps` and `WalkEnds`, and all phases and classes stand here.
use Rattle.std.proofs.Common.{Ok, Err}
use Prim.Native.Nat.{ℕ, ◌+◌, ◌-◌, ◌^◌, ◌≤◌, ◌<◌}
use mathlib.Core.Path.{◌≡◌, refl, ap}
use mathlib.Core.Bool.{Bool, true, false}
use mathlib.Core.List.{List, [], ◌∷◌}
use lib.ListN.{length, drop}
use lib.Seq.{drop-length}
use lib.Dec.{eqb, leb}
use native.Mathlib.Omega.{arith}
use borrow.Author.Tests.{eqb-true, leb-false}
use Rattle.laws.specs.Quoted.{code}
use Rattle.laws.specs.Texts.{begins, same}
use Rattle.laws.proofs.Choice.{if_all, if_is}
use Rattle.chars.specs.Encode.{is_scalar, spelled}
use Rattle.digits.specs.Hex.{hex_value, empty, Hex, wrong}
use Rattle.items.specs.declared.Quotes.{Quotes}
use Rattle.items.specs.declared.Quotes.TheVariants.{Double, Lines}
use Rattle.items.specs.declared.Outcome.{Outcome}
use Rattle.items.specs.declared.Outcome.TheVariants.{Token, Str, HereStr, Word, Run, Lined, Keyword, Character, Error, ErrorAt}
use Rattle.items.specs.declared.Phase.{Phase}
use Rattle.items.specs.declared.Phase.TheVariants as ph
use Rattle.items.specs.declared.Next.{Next}
use Rattle.items.specs.declared.Next.TheVariants.{Eat, Stop}
use Rattle.items.specs.declared.HashKind.{HashKind}
use Rattle.items.specs.declared.HashKind.TheVariants.{Decided, Bracket, Undecided}
use Rattle.items.specs.Kinds as kind
use Rattle.items.specs.Classes.{First, starts_run, first_of, delim_of, InQuotes, in_quotes, ends, escapes, plain}
use Rattle.items.specs.Classes.{AfterBackslash, after_backslash, simple, hex_x, hex_u, blank, newline, invalid}
use Rattle.items.specs.Classes.{InHex, stops_hex, in_hex, closes, stops, digit, InTrim, in_trim, space, line, solid, InNest, in_nest, bar, sharp, inside}
use Rattle.items.specs.Classes.{InWord, in_word, breaks, skips, goes, InRun, in_run, stays, stops_run, leaves}
use Rattle.items.specs.Classes.{AfterHash, after_hash, radix, opens_nest, datum, twice, angle, value}
use Rattle.items.specs.Classes.{InHash, in_hash, skips_two, tick, commas, stops_hash, stays_hash, InDelim, in_delim, ends_delim, returns, blank_delim, of_delim}
use Rattle.items.specs.Machine.{on_nest, on_bar, on_sharp, on_quoted, on_escape, on_brace, close_hex, on_hex, on_trim_before, on_trim_after}
use Rattle.items.specs.Machine.{on_word, enter_word, on_run, hash_then, hash_last, on_hash, on_after_hash, on_delim, step_of, finish_of, on_first, scan_of}
use Rattle.items.specs.Readers.{SoFar, so_far, eat, comment, first_is, last_is, lined_of, closed, unclosed, cut, scalar_of, failing_in}
use Rattle.items.specs.Readers.{bool_kind, quote_kind, form_kind, or_else, hash_kind, here_ends, read_item}
use Rattle.items.proofs.Cases.{by_next}
use Rattle.items.proofs.Failing.{HexInside, value_inside}
use Rattle.items.proofs.Fine.{FineHex, hex_value_lem}
use Rattle.items.proofs.OfClass.{OfQuotes, of_quotes, OfBackslash, of_backslash, OfHex, of_hex, OfHash, of_hash}
use Rattle.items.proofs.Phases.{Knows, KnownIn, Says, knows_of, InPhase}
use Rattle.items.proofs.Same.{item_same}

-- ---- what a law gives

-- of what the bytes of a `#` word decide
abbrev pub KnownKind : (Outcome → Type 0) → (ℕ → Type 0) → HashKind → Type 0
KnownKind S B (Decided o) = S o
KnownKind S B (Bracket d) = B d
KnownKind S B Undecided = Unit {0}

-- of an item with the bytes raw that ends, before a character or with the text
pub record WalkEnds (x : Knows) (raw : List ℕ) (S : Outcome → Type 0) : Type 0 where
  pub word : S Word
  pub run : S Run
  pub comment : S comment
  pub unquote : x.comma → S (Token kind.Unquote 0)
  pub here : x.here → here_ends raw ≡ true → S HereStr
  pub string : x.closed Double → S Str
  pub lined : 2 ≤ length raw → last_is (code "|") raw ≡ true → S Lined
  pub open_string : S (Error kind.IncompleteString 0)
  pub open_lined : S (Error kind.IncompleteIdentifier 0)
  pub open_nest : (d : ℕ) → x.nest d → S (Error kind.IncompleteComment 0)
  pub decided : KnownKind S x.bracket (hash_kind raw)
  pub done : (o : Outcome) → x.done o → S o

-- of a step to a phase that most laws know nothing of
pub record WalkCarries (c : ℕ) (x a : Knows) : Type 0 where
  pub angle : x.hash → c ≡ code "<" → a.angle
  pub opens_here : x.angle → c ≡ code "<" → a.here
  pub here : x.here → a.here
  pub opens_lined : c ≡ code "|" → a.quoted Lines
  pub quoted : (k : Quotes) → x.quoted k → a.quoted k
  pub escaped : (k : Quotes) (from : ℕ) → x.escape k from → a.quoted k
  pub scalar : (k : Quotes) (closer from m : ℕ) → x.digits k closer from m → a.quoted k

pub silent : (c : ℕ) (x a : Says) → WalkCarries c (knows_of x) (knows_of a)
silent c x a = record {
  angle = λ _ _. tt;
  opens_here = λ _ _. tt;
  here = λ _. tt;
  opens_lined = λ _. tt;
  quoted = λ _ _. tt;
  escaped = λ _ _ _. tt;
  scalar = λ _ _ _ _ _. tt;
}

-- Of a step with the character c: to what is over with c; into comments that nest; into and out of an escape. Error 11 fails at the digit p of those
-- behind m bytes; after `\u` with no brace an escape is as in its digits
pub record WalkSteps (report : Bool) (i : SoFar) (c : ℕ) (x a : Knows) (S : Outcome → Type 0) : Type 0 where
  pub comment : a.done comment
  pub splice : x.comma → c ≡ code "@" → a.done (Token kind.UnquoteSplice 0)
  pub datum : x.hash → c ≡ code ";" → a.done (Token kind.DatumComment 0)
  pub bracket : (d : ℕ) → x.bracket d → c ≡ code "(" → a.done (Token kind.OpenParen d)
  pub unexpected : a.done (Error kind.UnexpectedChar c)
  pub opens_nest_holds : x.hash → c ≡ code "|" → a.nest 1
  pub nest : (d e : ℕ) → e ≤ d + 1 → x.nest d → a.nest e
  pub carries : WalkCarries c x a
  pub ends : (k : Quotes) → x.quoted k → c ≡ delim_of k → a.closed k
  pub escapes : (k : Quotes) → x.quoted k → c ≡ code "\\" → a.escape k i.at
  pub solid : (k : Quotes) → x.quoted k → S (ErrorAt kind.InvalidWhitespace 0 i.at (eat i c).at)
  pub invalid : (k : Quotes) (from : ℕ) → x.escape k from → S (ErrorAt kind.InvalidStringEscape c from (eat i c).at)
  pub hex_x : (k : Quotes) (from : ℕ) → x.escape k from → c ≡ code "x" → a.digits k (code ";") from (length (eat i c).bytes)
  pub hex_u : (k : Quotes) (from : ℕ) → x.escape k from → c ≡ code "u" → a.brace k from
  pub braced : (k : Quotes) (from : ℕ) → x.brace k from → c ≡ code "{" → a.digits k (code "}") from (length (eat i c).bytes)
  pub unbraced : (k : Quotes) (from : ℕ) → x.brace k from → x.digits k (code ";") from (length i.bytes)
  pub digit : (k : Quotes) (closer from m : ℕ) → x.digits k closer from m → stops_hex c ≡ false → a.digits k closer from m
  pub unclosed : (k : Quotes) (closer from m : ℕ) → x.digits k closer from m → a.done (ErrorAt kind.UnclosedHexEscape closer from i.at)
  pub no_scalar : (k : Quotes) (closer from m v : ℕ) → x.digits k closer from m → v < 2 ^ 32
      → a.done (ErrorAt kind.InvalidHexCodePoint v from (eat i c).at)
  pub fails : (k : Quotes) (closer from m d p : ℕ) → x.digits k closer from m → c ≡ closer
      → hex_value (drop m i.bytes) ≡ wrong d p → d < 2 ^ 32 → p ≤ length (drop m i.bytes)
      → a.done (failing_in report kind.InvalidHexEscapeLiteral d from (eat i c).at (drop p (drop m i.bytes)) i)

-- what is known after a step
abbrev pub KnownAfter : Knows → (Outcome → Type 0) → Next → Type 0
KnownAfter a S (Eat q) = KnownIn a q
KnownAfter a S (Stop o) = S o

-- ---- the end of an item

module _ (x : Knows) (raw : List ℕ) (S : Outcome → Type 0) (e : WalkEnds x raw S) where
  lined : S (lined_of raw)
  unfolding lined_of
  lined =
      if_is S (leb (length raw) 1) (λ _. e.open_lined)
      (λ f. if_all S (first_is (code "+") raw) e.word
      (if_all S (first_is (code "|") raw)
      (if_is S (last_is (code "|") raw) (λ g. e.lined (omega (arith, leb-false (length raw) 1 f)) g) (λ _. e.open_lined)) e.open_lined))

  closed_says : (k : Quotes) → x.closed k → S (closed k raw)
  closed_says Double h = e.string h
  closed_says Lines h = lined

  unclosed_says : (k : Quotes) → S (unclosed k raw)
  unclosed_says Double = e.open_string
  unclosed_says Lines = lined

  cut_says : (k : Quotes) → S (cut k)
  cut_says Double = e.open_string
  cut_says Lines = e.open_lined

  last_says : (k : HashKind) → KnownKind S x.bracket k → S (hash_last k)
  last_says (Decided o) h = h
  last_says (Bracket d) h = e.word
  last_says Undecided h = e.word

  hash_says : S (hash_last (hash_kind raw))
  hash_says = last_says (hash_kind raw) e.decided

  pub walk_finish : (p : Phase) → KnownIn x p → S (finish_of p raw)
  walk_finish ph.InLine h = e.comment
  walk_finish ph.AfterComma h = e.unquote h
  walk_finish ph.AfterHash h = hash_says
  walk_finish ph.AfterAngle h = e.word
  walk_finish ph.HereDelim h = e.open_string
  walk_finish ph.HereStart h = e.open_string
  walk_finish ph.HereBody h = if_is S (here_ends raw) (e.here h) (λ _. e.open_string)
  walk_finish ph.InWord h = e.word
  walk_finish ph.WordEscape h = e.word
  walk_finish ph.InRun h = e.run
  walk_finish ph.InHash h = hash_says
  walk_finish ph.HashEscape h = hash_says
  walk_finish ph.HashTick h = hash_says
  walk_finish ph.HashComma h = hash_says
  walk_finish (ph.Nest d) h = e.open_nest d h
  walk_finish (ph.NestBar d) h = e.open_nest d h
  walk_finish (ph.NestSharp d) h = e.open_nest d h
  walk_finish (ph.Quoted k) h = unclosed_says k
  walk_finish (ph.Closed k) h = closed_says k h
  walk_finish (ph.TrimBefore k) h = cut_says k
  walk_finish (ph.TrimAfter k) h = cut_says k
  walk_finish (ph.Escape k from) h = cut_says k
  walk_finish (ph.Brace k from) h = cut_says k
  walk_finish (ph.Hex k closer from m) h = cut_says k
  walk_finish (ph.Done o) h = e.done o h

-- what the bytes of a `#` word decide, for a law that knows tokens by their numbers
module _ (raw : List ℕ) (S : Outcome → Type 0) (token : (k d : ℕ) → k < kind.first_error → d < 2 ^ 32 → S (Token k d)) where
  abbrev P : HashKind → Type 0
  P = KnownKind S (λ d. d < 2 ^ 32)

  decides_bool : P (bool_kind raw)
  unfolding bool_kind
  decides_bool =
      let yes : P (Decided (Token kind.BooleanLiteral 1)) = token _ 1 (omega arith) (omega arith) in
      let no : P (Decided (Token kind.BooleanLiteral 0)) = token _ 0 (omega arith) (omega arith) in
      if_all P (same raw (spelled "#true")) yes (if_all P (same raw (spelled "#t")) yes
      (if_all P (same raw (spelled "#false")) no (if_all P (same raw (spelled "#f")) no tt)))

  decides_quote : P (quote_kind raw)
  unfolding quote_kind
  decides_quote =
      let known : (k : ℕ) → k < kind.first_error → P (Decided (Token k 0)) = λ k l. token k 0 l (omega arith) in
      if_all P (same raw (spelled "#'")) (known _ (omega arith)) (if_all P (same raw (spelled "#`")) (known _ (omega arith))
      (if_all P (same raw (spelled "#,")) (known _ (omega arith)) (if_all P (same raw (spelled "#,@")) (known _ (omega arith)) tt)))

  decides_else : (j k : HashKind) → P j → P k → P (or_else j k)
  decides_else (Decided o) k p q = p
  decides_else (Bracket d) k p q = p
  decides_else Undecided k p q = q

  module _ (keyword : S Keyword) (short : S (Error kind.InvalidCharacter 0)) (character : begins (spelled "#\\") raw ≡ true → S Character) where
    decides_form : P (form_kind raw)
    unfolding form_kind
    decides_form =
        if_all P (begins (spelled "#:") raw) keyword
        (if_is P (begins (spelled "#\\") raw) (λ e. if_all P (leb (length raw) 2) short (character e))
        (λ _. if_all P (same raw (spelled "#")) (omega arith) (if_all P (same raw (spelled "#u8")) (omega arith) tt)))

    pub decides : P (hash_kind raw)
    unfolding hash_kind
    decides =
        decides_else (bool_kind raw) (or_else (quote_kind raw) (form_kind raw)) decides_bool
        (decides_else (quote_kind raw) (form_kind raw) decides_quote decides_form)

-- a law that says nothing of what ends an item
pub silent_ends : (x : Says) (raw : List ℕ) → WalkEnds (knows_of x) raw (λ _. Unit {0})
silent_ends x raw = record {
  word = tt;
  run = tt;
  comment = tt;
  unquote = λ _. tt;
  here = λ _ _. tt;
  string = λ _. tt;
  lined = λ _ _. tt;
  open_string = tt;
  open_lined = tt;
  open_nest = λ _ _. tt;
  decided = decides raw (λ _. Unit {0}) (λ _ _ _ _. tt) tt tt (λ _. tt);
  done = λ _ _. tt;
}

-- ---- a step

module _ (report : Bool) (i : SoFar) (c : ℕ) (x a : Knows) (S : Outcome → Type 0) (s : WalkSteps report i c x a S) (e : WalkEnds x i.bytes S) where
  abbrev G : Next → Type 0
  G = KnownAfter a S

  goes_nest : (k : InNest) (d : ℕ) → x.nest d → G (on_nest k d)
  goes_nest bar d h = s.nest d d (omega arith) h
  goes_nest sharp d h = s.nest d d (omega arith) h
  goes_nest inside d h = s.nest d d (omega arith) h

  goes_bar : (k : InNest) (d : ℕ) → x.nest d → G (on_bar k d)
  goes_bar bar d h = s.nest d d (omega arith) h
  goes_bar sharp d h = if_all G (leb d 1) s.comment (s.nest d (d - 1) (omega arith) h)
  goes_bar inside d h = s.nest d d (omega arith) h

  goes_sharp : (k : InNest) (d : ℕ) → x.nest d → G (on_sharp k d)
  goes_sharp bar d h = s.nest d (d + 1) (omega arith) h
  goes_sharp sharp d h = s.nest d d (omega arith) h
  goes_sharp inside d h = s.nest d d (omega arith) h

  goes_quoted : (k : InQuotes) (q : Quotes) → OfQuotes q c k → x.quoted q → G (on_quoted k q i c)
  goes_quoted ends q z h = s.ends q h z
  goes_quoted escapes q z h = s.escapes q h z
  goes_quoted plain q z h = s.carries.quoted q h

  goes_escape : (k : AfterBackslash) (q : Quotes) (from : ℕ) → OfBackslash c k → x.escape q from → G (on_escape k q from i c)
  goes_escape (simple y) q from z h = s.carries.escaped q from h
  goes_escape hex_x q from z h = s.hex_x q from h z
  goes_escape hex_u q from z h = s.hex_u q from h z
  goes_escape blank q from z h = s.carries.escaped q from h
  goes_escape newline q from z h = s.carries.escaped q from h
  goes_escape invalid q from z h = s.invalid q from h

  goes_close : (v : Hex) (q : Quotes) (closer from m : ℕ) → hex_value (drop m i.bytes) ≡ v → FineHex v → HexInside (length (drop m i.bytes)) v
      → c ≡ closer → x.digits q closer from m → G (close_hex report (scalar_of v) q from m (eat i c).at i)
  unfolding scalar_of
  goes_close (Ok v) q closer from m f l g z h =
      if_all (λ r. G (close_hex report r q from m (eat i c).at i)) (is_scalar v) (s.carries.scalar q closer from m h) (s.no_scalar q closer from m v h l)
  goes_close (Err w) q closer from m f l g z h = s.fails q closer from m w.detail w.place h z f l g

  goes_hex : (k : InHex) (q : Quotes) (closer from m : ℕ) → OfHex closer c k → x.digits q closer from m → G (on_hex report k q closer from m i c)
  goes_hex closes q closer from m z h =
      let ds : List ℕ = drop m i.bytes in goes_close (hex_value ds) q closer from m refl (hex_value_lem ds) (value_inside ds) z h
  goes_hex stops q closer from m z h = s.unclosed q closer from m h
  goes_hex digit q closer from m z h = s.digit q closer from m h z

  -- no digits yet after `\u`
  goes_brace : (k : InHex) (q : Quotes) (from : ℕ) → OfHex (code ";") c k → x.brace q from → G (on_brace report k q from i c)
  unfolding hex_value
  goes_brace closes q from z h =
      let none : drop (length i.bytes) i.bytes ≡ [] = drop-length i.bytes in
      let over : i.at - 0 ≡ i.at = omega arith in
      let f = s.fails q (code ";") from (length i.bytes) empty 0 (s.unbraced q from h) z (ap hex_value none) (omega arith) (omega arith) in
      rw (none, over) at f
  goes_brace stops q from z h = s.unclosed q (code ";") from (length i.bytes) (s.unbraced q from h)
  goes_brace digit q from z h = s.digit q (code ";") from (length i.bytes) (s.unbraced q from h) z

  goes_before : (k : InTrim) (q : Quotes) → x.quoted q → G (on_trim_before k q i c)
  goes_before space q h = s.carries.quoted q h
  goes_before line q h = s.carries.quoted q h
  goes_before solid q h = s.solid q h

  goes_trim : (k : InTrim) (q : Quotes) → x.quoted q → G (on_trim_after k q i c)
  goes_trim space q h = s.carries.quoted q h
  goes_trim line q h = s.carries.quoted q h
  goes_trim solid q h = goes_quoted (in_quotes q c) q (of_quotes q c) h

  goes_word : (k : InWord) → G (on_word k)
  goes_word breaks = e.word
  goes_word skips = tt
  goes_word goes = tt

  goes_enter : G (enter_word c)
  goes_enter = if_is G (eqb c (code "|")) (λ z. s.carries.opens_lined (eqb-true c (code "|") z)) (λ _. goes_word (in_word c))

  goes_run : (k : InRun) → G (on_run k c)
  goes_run stays = tt
  goes_run stops_run = e.run
  goes_run leaves = goes_enter

  goes_then : (k : HashKind) → KnownKind S x.bracket k → G (hash_then k c)
  goes_then (Decided o) h = h
  goes_then (Bracket d) h = if_is G (eqb c (code "(")) (λ z. s.bracket d h (eqb-true c (code "(") z)) (λ _. goes_enter)
  goes_then Undecided h = goes_enter

  goes_kind : G (hash_then (hash_kind i.bytes) c)
  goes_kind = goes_then (hash_kind i.bytes) e.decided

  goes_hash : (k : InHash) → G (on_hash k i.bytes c)
  goes_hash skips_two = tt
  goes_hash tick = tt
  goes_hash commas = tt
  goes_hash stops_hash = goes_kind
  goes_hash stays_hash = tt

  goes_after : (k : AfterHash) → OfHash c k → x.hash → G (on_after_hash k i.bytes c)
  goes_after radix z h = tt
  goes_after opens_nest z h = s.opens_nest_holds h z
  goes_after datum z h = s.datum h z
  goes_after twice z h = s.unexpected
  goes_after angle z h = s.carries.angle h z
  goes_after value z h = goes_hash (in_hash c)

  goes_delim : (k : InDelim) → x.here → G (on_delim k c)
  goes_delim ends_delim h = s.carries.here h
  goes_delim returns h = s.carries.here h
  goes_delim blank_delim h = s.unexpected
  goes_delim of_delim h = s.carries.here h

  pub walk_step : (p : Phase) → KnownIn x p → KnownAfter a S (step_of report p i c)
  walk_step ph.InLine h = if_all G (eqb c (code "\n")) s.comment tt
  walk_step ph.AfterComma h = if_is G (eqb c (code "@")) (λ z. s.splice h (eqb-true c (code "@") z)) (λ _. e.unquote h)
  walk_step ph.AfterHash h = goes_after (after_hash c) (of_hash c) h
  walk_step ph.AfterAngle h = if_is G (eqb c (code "<")) (λ z. s.carries.opens_here h (eqb-true c (code "<") z)) (λ _. goes_enter)
  walk_step ph.HereDelim h = goes_delim (in_delim c) h
  walk_step ph.HereStart h = s.carries.here h
  walk_step ph.HereBody h = if_is G (here_ends i.bytes) (e.here h) (λ _. s.carries.here h)
  walk_step ph.InWord h = goes_word (in_word c)
  walk_step ph.WordEscape h = tt
  walk_step ph.InRun h = goes_run (in_run report i.bytes c)
  walk_step ph.InHash h = goes_hash (in_hash c)
  walk_step ph.HashEscape h = tt
  walk_step ph.HashTick h = goes_kind
  walk_step ph.HashComma h = if_all G (eqb c (code "@")) tt goes_kind
  walk_step (ph.Nest d) h = goes_nest (in_nest c) d h
  walk_step (ph.NestBar d) h = goes_bar (in_nest c) d h
  walk_step (ph.NestSharp d) h = goes_sharp (in_nest c) d h
  walk_step (ph.Quoted k) h = goes_quoted (in_quotes k c) k (of_quotes k c) h
  walk_step (ph.Closed k) h = closed_says x i.bytes S e k h
  walk_step (ph.TrimBefore k) h = goes_before (in_trim c) k h
  walk_step (ph.TrimAfter k) h = goes_trim (in_trim c) k h
  walk_step (ph.Escape k from) h = goes_escape (after_backslash c) k from (of_backslash c) h
  walk_step (ph.Brace k from) h =
      if_is G (eqb c (code "{")) (λ z. s.braced k from h (eqb-true c (code "{") z)) (λ _. goes_brace (in_hex k (code ";") c) k from (of_hex k (code ";") c) h)
  walk_step (ph.Hex k closer from m) h = goes_hex (in_hex k closer c) k closer from m (of_hex k closer c) h
  walk_step (ph.Done o) h = e.done o h

-- ---- the first character, for a law that knows tokens by their numbers

pub walk_start : (x : Says) (c : ℕ) → ((k d : ℕ) → k < kind.first_error → d < 2 ^ 32 → x.done (Token k d)) → InPhase x (on_first (first_of c))
unfolding first_of
walk_start x c token =
    let P : First → Type 0 = λ f. InPhase x (on_first f) in
    let known : (k d : ℕ) → k < kind.first_error → d < 3 → x.done (Token k d) = λ k d l m. token k d l (omega arith) in
    if_all P (eqb c (code ";")) tt (if_all P (eqb c (code "\"")) tt (if_all P (eqb c (code ",")) tt (if_all P (eqb c (code "#")) tt
    (if_all P (eqb c (code "(")) (known _ _ (omega arith) (omega arith)) (if_all P (eqb c (code "[")) (known _ _ (omega arith) (omega arith))
    (if_all P (eqb c (code "{")) (known _ _ (omega arith) (omega arith)) (if_all P (eqb c (code ")")) (known _ _ (omega arith) (omega arith))
    (if_all P (eqb c (code "]")) (known _ _ (omega arith) (omega arith)) (if_all P (eqb c (code "}")) (known _ _ (omega arith) (omega arith))
    (if_all P (eqb c (code "'")) (known _ _ (omega arith) (omega arith)) (if_all P (eqb c (code "`")) (known _ _ (omega arith) (omega arith))
    (if_all P (starts_run c) tt (if_all P (eqb c (code "|")) tt (if_all P (eqb c (code "\\")) tt tt))))))))))))))

-- ---- the whole item, where R is known of the item so far and of what is left of the text

module _ (report : Bool) (x : SoFar → Knows) (S : SoFar → Outcome → Type 0) (R : SoFar → List ℕ → Type 0)
    (over : (i : SoFar) (cs : List ℕ) → R i cs → WalkEnds (x i) i.bytes (S i))
    (on : (i : SoFar) (c : ℕ) (cs : List ℕ) → R i (c ∷ cs) → WalkSteps report i c (x i) (x (eat i c)) (S i) × R (eat i c) cs) where
  scans : (p : Phase) (i : SoFar) (cs : List ℕ) → KnownIn (x i) p → R i cs → S (scan_of report p i cs).item (scan_of report p i cs).what
  unfolding scan_of
  scans p i [] h r = walk_finish (x i) i.bytes (S i) (over i [] r) p h
  scans p i (c ∷ cs) h r =
      let o = on i c cs r in
      let g : KnownAfter (x (eat i c)) (S i) (step_of report p i c) = walk_step report i c (x i) (x (eat i c)) (S i) o.0 (over i (c ∷ cs) r) p h in
      by_next (step_of report p i c)
      (λ q e. rw (e, scan_of) (scans q (eat i c) cs (rw e at g) o.1))
      (λ q e. rw (e, scan_of) (rw e at g))

  pub walk_read : (at c : ℕ) (cs : List ℕ) → KnownIn (x (eat (so_far [] at) c)) (on_first (first_of c)) → R (eat (so_far [] at) c) cs
      → S (read_item report at c cs).item (read_item report at c cs).what
  walk_read at c cs h r = rw (item_same report at c cs) at (scans (on_first (first_of c)) (eat (so_far [] at) c) cs h r)
