-- How a keyword, a comment and an identifier in vertical lines begin: `#:`; `;` or `#|`; `|`. Each phase of the machine knows it of the item so far, and a step keeps it.
use Rattle.std.proofs.Common.{Err, Ok, Result}
use Prim.Native.Nat.{ℕ}
use mathlib.Core.Path.{◌≡◌, refl, ap, ◌∙◌}
use mathlib.Core.Logic.{◌⊎◌, inl, inr}
use mathlib.Core.Bool.{Bool, true}
use mathlib.Core.List.{List, [], ◌∷◌, ◌++◌}
use lib.ListN.{length, drop}
use lib.Dec.{eqb, leb}
use borrow.Author.Tests.{eqb-true}
use Rattle.laws.specs.Quoted.{code, codes, one_of}
use Rattle.laws.specs.Texts.{begins, same}
use Rattle.laws.proofs.Choice.{by_bool, no_yes, if_all, if_is, impossible}
use Rattle.chars.specs.Encode.{utf8, bytes_of, spelled}
use Rattle.digits.specs.Hex.{hex_value}
use Rattle.items.specs.declared.Quotes.{Quotes}
use Rattle.items.specs.declared.Quotes.TheVariants.{Double, Lines}
use Rattle.items.specs.declared.Outcome.{Outcome}
use Rattle.items.specs.declared.Outcome.TheVariants.{Token, Str, HereStr, Word, Run, Lined, Keyword, Character, Error, ErrorAt}
use Rattle.items.specs.declared.Phase.{Phase}
use Rattle.items.specs.declared.Phase.TheVariants as ph
use Rattle.items.specs.declared.Next.{Next}
use Rattle.items.specs.declared.Next.TheVariants.{Eat, Stop}
use Rattle.items.specs.declared.HashKind.{HashKind}
use Rattle.items.specs.declared.HashKind.TheVariants.{Decided, Bracket, Undecided}
use Rattle.items.specs.declared.CharError.{CharError}
use Rattle.items.specs.declared.CharError.TheVariants.{Wrong, WrongAt}
use Rattle.items.specs.Kinds as kind
use Rattle.items.specs.Classes.{starts_run, first_of, in_quotes, after_backslash, in_hex, in_trim, in_nest, in_word, in_run}
use Rattle.items.specs.Classes.{after_hash, in_hash, in_delim, First, InQuotes, ends, escapes, plain, AfterBackslash, simple, hex_x, hex_u}
use Rattle.items.specs.Classes.{blank, newline, invalid, InHex, closes, stops, digit, InTrim, space, line, solid, InNest, bar, sharp}
use Rattle.items.specs.Classes.{inside, InWord, breaks, skips, goes, InRun, stays, stops_run, leaves, AfterHash, radix, opens_nest}
use Rattle.items.specs.Classes.{datum, twice, angle, value, InHash, skips_two, tick, commas, stops_hash, stays_hash, InDelim, ends_delim}
use Rattle.items.specs.Classes.{returns, blank_delim, of_delim}
use Rattle.items.specs.Machine.{hash_last, on_nest, on_bar, on_sharp, on_quoted, on_escape, on_brace, close_hex, on_hex, on_trim_before, on_trim_after}
use Rattle.items.specs.Machine.{on_word, enter_word, on_run, hash_then, on_hash, on_after_hash, on_delim, step_of, finish_of, on_first, scan_of}
use Rattle.items.specs.Readers.{SoFar, so_far, eat, first_is, last_is, lined_of, closed, unclosed, cut, scalar_of, failing, bool_kind, quote_kind, form_kind, or_else}
use Rattle.items.specs.Readers.{hash_kind, here_ends, read_item}
use Rattle.items.proofs.Cases.{by_next}
use Rattle.items_numbers.proofs.Spelled.{begins_on}
use Rattle.items.proofs.Same.{item_same}

abbrev pub CommentBegins : List ℕ → Type 0
CommentBegins raw = (begins (spelled ";") raw ≡ true) ⊎ (begins (spelled "#|") raw ≡ true)

-- of an outcome of the bytes raw
abbrev pub Begun : List ℕ → Outcome → Type 0
Begun raw (Token k d) = (eqb k kind.Comment ≡ true → CommentBegins raw)
Begun raw Str = Unit {0}
Begun raw HereStr = Unit {0}
Begun raw Word = Unit {0}
Begun raw Run = Unit {0}
Begun raw Lined = first_is (code "|") raw ≡ true
Begun raw Keyword = begins (spelled "#:") raw ≡ true
Begun raw Character = Unit {0}
Begun raw (Error n d) = Unit {0}
Begun raw (ErrorAt n d a b) = Unit {0}

abbrev OfKind : List ℕ → HashKind → Type 0
OfKind raw (Decided o) = Begun raw o
OfKind raw (Bracket d) = Unit {0}
OfKind raw Undecided = Unit {0}

abbrev InLineComment : List ℕ → Type 0
InLineComment raw = begins (spelled ";") raw ≡ true

abbrev InNested : List ℕ → Type 0
InNested raw = begins (spelled "#|") raw ≡ true

abbrev Holds : List ℕ → Phase → Type 0
Holds raw ph.InLine = InLineComment raw
Holds raw ph.AfterComma = Unit {0}
Holds raw ph.AfterHash = raw ≡ spelled "#"
Holds raw ph.AfterAngle = Unit {0}
Holds raw ph.HereDelim = Unit {0}
Holds raw ph.HereStart = Unit {0}
Holds raw ph.HereBody = Unit {0}
Holds raw ph.InWord = Unit {0}
Holds raw ph.WordEscape = Unit {0}
Holds raw ph.InRun = Unit {0}
Holds raw ph.InHash = Unit {0}
Holds raw ph.HashEscape = Unit {0}
Holds raw ph.HashTick = Unit {0}
Holds raw ph.HashComma = Unit {0}
Holds raw (ph.Nest d) = InNested raw
Holds raw (ph.NestBar d) = InNested raw
Holds raw (ph.NestSharp d) = InNested raw
Holds raw (ph.Quoted k) = Unit {0}
Holds raw (ph.Closed k) = Unit {0}
Holds raw (ph.TrimBefore k) = Unit {0}
Holds raw (ph.TrimAfter k) = Unit {0}
Holds raw (ph.Escape k from) = Unit {0}
Holds raw (ph.Brace k from) = Unit {0}
Holds raw (ph.Hex k closer from m) = Unit {0}
Holds raw (ph.Done o) = Begun raw o

abbrev Goes : SoFar → ℕ → Next → Type 0
Goes i c (Eat q) = Holds (eat i c).bytes q
Goes i c (Stop o) = Begun i.bytes o

module _ (raw : List ℕ) where
  lined : Begun raw (lined_of raw)
  unfolding lined_of
  lined =
      let P : Outcome → Type 0 = Begun raw in
      if_all P (leb (length raw) 1) tt
      (if_all P (first_is (code "+") raw) tt
      (if_is P (first_is (code "|") raw) (λ e. if_all P (last_is (code "|") raw) e tt) (λ _. tt)))

  at_closed : (k : Quotes) → Begun raw (closed k raw)
  at_closed Double = tt
  at_closed Lines = lined

  at_unclosed : (k : Quotes) → Begun raw (unclosed k raw)
  at_unclosed Double = tt
  at_unclosed Lines = lined

  at_cut : (k : Quotes) → Begun raw (cut k)
  at_cut Double = tt
  at_cut Lines = tt

  of_bool : OfKind raw (bool_kind raw)
  unfolding bool_kind
  of_bool =
      let P : HashKind → Type 0 = OfKind raw in
      if_all P (same raw (spelled "#true")) (λ e. no_yes e) (if_all P (same raw (spelled "#t")) (λ e. no_yes e)
      (if_all P (same raw (spelled "#false")) (λ e. no_yes e) (if_all P (same raw (spelled "#f")) (λ e. no_yes e) tt)))

  of_quote : OfKind raw (quote_kind raw)
  unfolding quote_kind
  of_quote =
      let P : HashKind → Type 0 = OfKind raw in
      if_all P (same raw (spelled "#'")) (λ e. no_yes e) (if_all P (same raw (spelled "#`")) (λ e. no_yes e)
      (if_all P (same raw (spelled "#,")) (λ e. no_yes e) (if_all P (same raw (spelled "#,@")) (λ e. no_yes e) tt)))

  of_form : OfKind raw (form_kind raw)
  unfolding form_kind
  of_form =
      let P : HashKind → Type 0 = OfKind raw in
      if_is P (begins (spelled "#:") raw) (λ e. e)
      (λ _. if_all P (begins (spelled "#\\") raw) (if_all P (leb (length raw) 2) tt tt)
      (if_all P (same raw (spelled "#")) tt (if_all P (same raw (spelled "#u8")) tt tt)))

  of_else : (j k : HashKind) → OfKind raw j → OfKind raw k → OfKind raw (or_else j k)
  of_else (Decided o) k p q = p
  of_else (Bracket d) k p q = p
  of_else Undecided k p q = q

  of_kind : OfKind raw (hash_kind raw)
  unfolding hash_kind
  of_kind = of_else (bool_kind raw) (or_else (quote_kind raw) (form_kind raw)) of_bool (of_else (quote_kind raw) (form_kind raw) of_quote of_form)

  of_last : (k : HashKind) → OfKind raw k → Begun raw (hash_last k)
  of_last (Decided o) p = p
  of_last (Bracket d) p = tt
  of_last Undecided p = tt

module _ (report : Bool) (i : SoFar) (c : ℕ) where
  abbrev G : Next → Type 0
  G = Goes i c

  -- what the item began with, with the next character
  line_on : InLineComment i.bytes → InLineComment (eat i c).bytes
  line_on h = begins_on (spelled ";") i.bytes (utf8 c) h

  nest_on : InNested i.bytes → InNested (eat i c).bytes
  nest_on h = begins_on (spelled "#|") i.bytes (utf8 c) h

  goes_nest : (k : InNest) (d : ℕ) → InNested i.bytes → G (on_nest k d)
  goes_nest bar d h = nest_on h
  goes_nest sharp d h = nest_on h
  goes_nest inside d h = nest_on h

  goes_bar : (k : InNest) (d : ℕ) → InNested i.bytes → G (on_bar k d)
  goes_bar bar d h = nest_on h
  goes_bar sharp d h = if_all G (leb d 1) (λ e. inr (nest_on h)) (nest_on h)
  goes_bar inside d h = nest_on h

  goes_sharp : (k : InNest) (d : ℕ) → InNested i.bytes → G (on_sharp k d)
  goes_sharp bar d h = nest_on h
  goes_sharp sharp d h = nest_on h
  goes_sharp inside d h = nest_on h

  goes_quoted : (k : InQuotes) (q : Quotes) → G (on_quoted k q i c)
  goes_quoted ends q = tt
  goes_quoted escapes q = tt
  goes_quoted plain q = tt

  goes_escape : (k : AfterBackslash) (q : Quotes) (from : ℕ) → G (on_escape k q from i c)
  goes_escape (simple x) q from = tt
  goes_escape hex_x q from = tt
  goes_escape hex_u q from = tt
  goes_escape blank q from = tt
  goes_escape newline q from = tt
  goes_escape invalid q from = tt

  at_failing : (raw : List ℕ) (e d from to at : ℕ) (rest : List ℕ) → Begun raw (failing report e d from to at rest)
  at_failing raw e d from to at rest = if_all (Begun raw) report tt tt

  goes_brace : (k : InHex) (q : Quotes) (from : ℕ) → G (on_brace report k q from i c)
  goes_brace closes q from = at_failing (eat i c).bytes kind.InvalidHexEscapeLiteral _ from _ _ _
  goes_brace stops q from = tt
  goes_brace digit q from = tt

  goes_close : (v : Result ℕ CharError) (q : Quotes) (from m : ℕ) → G (close_hex report v q from m (eat i c).at i)
  goes_close (Ok x) q from m = tt
  goes_close (Err (Wrong n d)) q from m = tt
  goes_close (Err (WrongAt n d p)) q from m = at_failing (eat i c).bytes n d from _ _ _

  goes_hex : (k : InHex) (q : Quotes) (closer from m : ℕ) → G (on_hex report k q closer from m i c)
  goes_hex closes q closer from m = goes_close (scalar_of (hex_value (drop m i.bytes))) q from m
  goes_hex stops q closer from m = tt
  goes_hex digit q closer from m = tt

  goes_before : (k : InTrim) (q : Quotes) → G (on_trim_before k q i c)
  goes_before space q = tt
  goes_before line q = tt
  goes_before solid q = tt

  goes_trim : (k : InTrim) (q : Quotes) → G (on_trim_after k q i c)
  goes_trim space q = tt
  goes_trim line q = tt
  goes_trim solid q = goes_quoted (in_quotes q c) q

  goes_word : (k : InWord) → G (on_word k)
  goes_word breaks = tt
  goes_word skips = tt
  goes_word goes = tt

  goes_enter : G (enter_word c)
  goes_enter = if_all G (eqb c (code "|")) tt (goes_word (in_word c))

  goes_run : (k : InRun) → G (on_run k c)
  goes_run stays = tt
  goes_run stops_run = tt
  goes_run leaves = goes_enter

  goes_then : (k : HashKind) → OfKind i.bytes k → G (hash_then k c)
  goes_then (Decided o) f = f
  goes_then (Bracket d) f = if_all G (eqb c (code "(")) (λ e. no_yes e) goes_enter
  goes_then Undecided f = goes_enter

  goes_hash : (k : InHash) → G (on_hash k i.bytes c)
  goes_hash skips_two = tt
  goes_hash tick = tt
  goes_hash commas = tt
  goes_hash stops_hash = goes_then (hash_kind i.bytes) (of_kind i.bytes)
  goes_hash stays_hash = tt

  goes_after : (k : AfterHash) → (k ≡ opens_nest → InNested (eat i c).bytes) → G (on_after_hash k i.bytes c)
  goes_after radix f = tt
  goes_after opens_nest f = f refl
  goes_after datum f = λ e. no_yes e
  goes_after twice f = tt
  goes_after angle f = tt
  goes_after value f = goes_hash (in_hash c)

  -- `#` and what opens a nested comment
  opens_nest_holds : i.bytes ≡ spelled "#" → after_hash c ≡ opens_nest → InNested (eat i c).bytes
  unfolding after_hash begins bytes_of utf8
  opens_nest_holds h e =
      let z : c ≡ code "|" = vertical e in
      ap (λ (l : List ℕ). begins (spelled "#|") (l ++ utf8 c)) h ∙ ap (λ (n : ℕ). begins (spelled "#|") (spelled "#" ++ utf8 n)) z
    where
      vertical : after_hash c ≡ opens_nest → c ≡ code "|"
      vertical e = by_bool (one_of (codes "xXdDoObB") c)
          (λ f. let z : radix ≡ opens_nest = rw f at e in impossible cc)
          (λ f. by_bool (eqb c (code "|")) (λ g. eqb-true c (code "|") g)
          (λ g. by_bool (eqb c (code ";"))
          (λ k. let z : datum ≡ opens_nest = rw (f, g, k) at e in impossible cc)
          (λ k. by_bool (eqb c (code "#"))
          (λ l. let z : twice ≡ opens_nest = rw (f, g, k, l) at e in impossible cc)
          (λ l. by_bool (eqb c (code "<"))
          (λ m. let z : angle ≡ opens_nest = rw (f, g, k, l, m) at e in impossible cc)
          (λ m. let z : value ≡ opens_nest = rw (f, g, k, l, m) at e in impossible cc)))))

  goes_delim : (k : InDelim) → G (on_delim k c)
  goes_delim ends_delim = tt
  goes_delim returns = tt
  goes_delim blank_delim = tt
  goes_delim of_delim = tt

  goes_on : (p : Phase) → Holds i.bytes p → G (step_of report p i c)
  goes_on ph.InLine h = if_all G (eqb c (code "\n")) (λ e. inl (line_on h)) (line_on h)
  goes_on ph.AfterComma h = if_all G (eqb c (code "@")) (λ e. no_yes e) (λ e. no_yes e)
  goes_on ph.AfterHash h = goes_after (after_hash c) (opens_nest_holds h)
  goes_on ph.AfterAngle h = if_all G (eqb c (code "<")) tt goes_enter
  goes_on ph.HereDelim h = goes_delim (in_delim c)
  goes_on ph.HereStart h = tt
  goes_on ph.HereBody h = if_all G (here_ends i.bytes) tt tt
  goes_on ph.InWord h = goes_word (in_word c)
  goes_on ph.WordEscape h = tt
  goes_on ph.InRun h = goes_run (in_run report i.bytes c)
  goes_on ph.InHash h = goes_hash (in_hash c)
  goes_on ph.HashEscape h = tt
  goes_on ph.HashTick h = goes_then (hash_kind i.bytes) (of_kind i.bytes)
  goes_on ph.HashComma h = if_all G (eqb c (code "@")) tt (goes_then (hash_kind i.bytes) (of_kind i.bytes))
  goes_on (ph.Nest d) h = goes_nest (in_nest c) d h
  goes_on (ph.NestBar d) h = goes_bar (in_nest c) d h
  goes_on (ph.NestSharp d) h = goes_sharp (in_nest c) d h
  goes_on (ph.Quoted k) h = goes_quoted (in_quotes k c) k
  goes_on (ph.Closed k) h = at_closed i.bytes k
  goes_on (ph.TrimBefore k) h = goes_before (in_trim c) k
  goes_on (ph.TrimAfter k) h = goes_trim (in_trim c) k
  goes_on (ph.Escape k from) h = goes_escape (after_backslash c) k from
  goes_on (ph.Brace k from) h = if_all G (eqb c (code "{")) tt (goes_brace (in_hex k (code ";") c) k from)
  goes_on (ph.Hex k closer from m) h = goes_hex (in_hex k closer c) k closer from m
  goes_on (ph.Done o) h = h

module _ (report : Bool) where
  at_finish : (i : SoFar) (p : Phase) → Holds i.bytes p → Begun i.bytes (finish_of p i.bytes)
  at_finish i ph.InLine h = λ e. inl h
  at_finish i ph.AfterComma h = λ e. no_yes e
  at_finish i ph.AfterHash h = of_last i.bytes (hash_kind i.bytes) (of_kind i.bytes)
  at_finish i ph.AfterAngle h = tt
  at_finish i ph.HereDelim h = tt
  at_finish i ph.HereStart h = tt
  at_finish i ph.HereBody h = if_all (Begun i.bytes) (here_ends i.bytes) tt tt
  at_finish i ph.InWord h = tt
  at_finish i ph.WordEscape h = tt
  at_finish i ph.InRun h = tt
  at_finish i ph.InHash h = of_last i.bytes (hash_kind i.bytes) (of_kind i.bytes)
  at_finish i ph.HashEscape h = of_last i.bytes (hash_kind i.bytes) (of_kind i.bytes)
  at_finish i ph.HashTick h = of_last i.bytes (hash_kind i.bytes) (of_kind i.bytes)
  at_finish i ph.HashComma h = of_last i.bytes (hash_kind i.bytes) (of_kind i.bytes)
  at_finish i (ph.Nest d) h = tt
  at_finish i (ph.NestBar d) h = tt
  at_finish i (ph.NestSharp d) h = tt
  at_finish i (ph.Quoted k) h = at_unclosed i.bytes k
  at_finish i (ph.Closed k) h = at_closed i.bytes k
  at_finish i (ph.TrimBefore k) h = at_cut i.bytes k
  at_finish i (ph.TrimAfter k) h = at_cut i.bytes k
  at_finish i (ph.Escape k from) h = at_cut i.bytes k
  at_finish i (ph.Brace k from) h = at_cut i.bytes k
  at_finish i (ph.Hex k closer from m) h = at_cut i.bytes k
  at_finish i (ph.Done o) h = h

  at_scan : (p : Phase) (i : SoFar) (cs : List ℕ) → Holds i.bytes p → Begun (scan_of report p i cs).item.bytes (scan_of report p i cs).what
  unfolding scan_of
  at_scan p i [] h = at_finish i p h
  at_scan p i (c ∷ cs) h =
      let g : Goes i c (step_of report p i c) = goes_on report i c p h in
      by_next (step_of report p i c) (λ q e. rw (e, scan_of) (at_scan q (eat i c) cs (rw e at g))) (λ o e. rw (e, scan_of) (rw e at g))

  at_first : (s c : ℕ) → Holds (eat (so_far [] s) c).bytes (on_first (first_of c))
  unfolding first_of begins bytes_of utf8
  at_first s c =
      let P : First → Type 0 = λ f. Holds (utf8 c) (on_first f) in
      if_is P (eqb c (code ";")) (λ e. ap (λ (n : ℕ). begins (spelled ";") (utf8 n)) (eqb-true c (code ";") e))
      (λ _. if_all P (eqb c (code "\"")) tt (if_all P (eqb c (code ",")) tt
      (if_is P (eqb c (code "#")) (λ e. ap utf8 (eqb-true c (code "#") e))
      (λ _. if_all P (eqb c (code "(")) (λ e. no_yes e) (if_all P (eqb c (code "[")) (λ e. no_yes e) (if_all P (eqb c (code "{")) (λ e. no_yes e)
      (if_all P (eqb c (code ")")) (λ e. no_yes e) (if_all P (eqb c (code "]")) (λ e. no_yes e) (if_all P (eqb c (code "}")) (λ e. no_yes e)
      (if_all P (eqb c (code "'")) (λ e. no_yes e) (if_all P (eqb c (code "`")) (λ e. no_yes e)
      (if_all P (starts_run c) tt (if_all P (eqb c (code "|")) tt (if_all P (eqb c (code "\\")) tt tt))))))))))))))

  pub begun : (s c : ℕ) (cs : List ℕ) → Begun (read_item report s c cs).item.bytes (read_item report s c cs).what
  begun s c cs = rw (item_same report s c cs) at (at_scan (on_first (first_of c)) (eat (so_far [] s) c) cs (at_first s c))
