-- What may follow a run, a word, a word in vertical lines, a boolean and a character (specs/Follows): a step that ends one says which character ended
-- it; of what starts with `#`, that it is a mark of its own otherwise.
use Rattle.std.proofs.Common.{Err, Ok, Result}
use Prim.Native.Nat.{ℕ, ◌≤◌}
use mathlib.Core.Path.{◌≡◌, refl, ap, sym, ◌∙◌}
use mathlib.Core.Logic.{◌⊎◌, inl, inr}
use mathlib.Core.Bool.{Bool, true, false}
use mathlib.Core.List.{List, [], ◌∷◌, append-nil}
use lib.ListN.{length, drop}
use lib.Dec.{eqb, leb}
use native.Mathlib.Omega.{arith}
use borrow.Author.Tests.{eqb-true}
use Rattle.laws.specs.Quoted.{code}
use Rattle.laws.specs.Texts.{begins, same}
use Rattle.laws.proofs.Choice.{by_bool, no_yes, if_all, if_is}
use Rattle.chars.specs.Encode.{utf8, bytes_of, spelled}
use Rattle.digits.specs.Hex.{hex_value}
use Rattle.items.specs.declared.Quotes.{Quotes}
use Rattle.items.specs.declared.Quotes.TheVariants.{Double, Lines}
use Rattle.items.specs.declared.Outcome.{Outcome}
use Rattle.items.specs.declared.Outcome.TheVariants.{Token, Str, HereStr, Word, Run, Lined, Keyword, Character, Error, ErrorAt}
use Rattle.items.specs.declared.Phase.{Phase}
use Rattle.items.specs.declared.Phase.TheVariants as ph
use Rattle.items.specs.declared.Next.{Next}
use Rattle.items.specs.declared.Next.TheVariants.{Eat, Stop}
use Rattle.items.specs.declared.HashKind.{HashKind}
use Rattle.items.specs.declared.HashKind.TheVariants.{Decided, Bracket, Undecided}
use Rattle.items.specs.declared.CharError.{CharError}
use Rattle.items.specs.declared.CharError.TheVariants.{Wrong, WrongAt}
use Rattle.items.specs.Kinds as kind
use Rattle.items.specs.Classes.{starts_run, first_of, in_quotes, after_backslash, in_hex, in_trim, in_nest, breaks_word, in_word, stays_run, ends_run, bars_run, in_run}
use Rattle.items.specs.Classes.{after_hash, in_hash, in_delim, First, InQuotes, ends, escapes, plain, AfterBackslash, simple, hex_x, hex_u}
use Rattle.items.specs.Classes.{blank, newline, invalid, InHex, closes, stops, digit, InTrim, space, line, solid, InNest, bar, sharp}
use Rattle.items.specs.Classes.{inside, InWord, breaks, skips, goes, InRun, stays, stops_run, leaves, AfterHash, radix, opens_nest}
use Rattle.items.specs.Classes.{datum, twice, angle, value, InHash, skips_two, tick, commas, stops_hash, stays_hash, InDelim, ends_delim}
use Rattle.items.specs.Classes.{returns, blank_delim, of_delim}
use Rattle.items.specs.Machine.{on_nest, on_bar, on_sharp, on_quoted, on_escape, on_brace, close_hex, on_hex, on_trim_before, on_trim_after}
use Rattle.items.specs.Machine.{on_word, enter_word, on_run, hash_then, on_hash, on_after_hash, on_delim, step_of, on_first, scan_of}
use Rattle.items.specs.Readers.{SoFar, so_far, eat, first_is, last_is, lined_of, closed, scalar_of, failing, bool_kind, quote_kind, form_kind, or_else}
use Rattle.items.specs.Readers.{hash_kind, here_ends, read_item}
use Rattle.items.proofs.Cases.{by_next}
use Rattle.items.proofs.Same.{item_same}
use Rattle.items_r7rs_words.proofs.Hashes.{HashEnd, Marked, Open, Started, wider, grown, opened, marked, marked_on, HashClass, hash_class}

-- ---- what ended it

abbrev pub RunEnd : Bool → ℕ → Type 0
RunEnd report c = (ends_run report c ≡ true) ⊎ ((report ≡ true) × (c ≡ code "|"))

-- of an outcome of the bytes raw before c
abbrev pub EndedBy : Bool → List ℕ → Outcome → ℕ → Type 0
EndedBy report raw (Token k d) c = eqb k kind.BooleanLiteral ≡ true → HashEnd raw c
EndedBy report raw Str c = Unit {0}
EndedBy report raw HereStr c = Unit {0}
EndedBy report raw Word c = (breaks_word c ≡ true) ⊎ (first_is (code "+") raw ≡ true)
EndedBy report raw Run c = RunEnd report c
EndedBy report raw Lined c = first_is (code "|") raw ≡ true
EndedBy report raw Keyword c = Unit {0}
EndedBy report raw Character c = HashEnd raw c
EndedBy report raw (Error n d) c = Unit {0}
EndedBy report raw (ErrorAt n d a b) c = Unit {0}

-- of one that anything may follow
abbrev Sealed : List ℕ → Outcome → Type 0
Sealed raw (Token k d) = eqb k kind.BooleanLiteral ≡ false
Sealed raw Str = Unit {0}
Sealed raw HereStr = Unit {0}
Sealed raw Word = first_is (code "+") raw ≡ true
Sealed raw Run = ⊥
Sealed raw Lined = first_is (code "|") raw ≡ true
Sealed raw Keyword = Unit {0}
Sealed raw Character = ⊥
Sealed raw (Error n d) = Unit {0}
Sealed raw (ErrorAt n d a b) = Unit {0}

sealed : (report : Bool) (raw : List ℕ) (o : Outcome) (c : ℕ) → Sealed raw o → EndedBy report raw o c
sealed report raw (Token k d) c h = λ e. no_yes (sym h ∙ e)
sealed report raw Str c h = tt
sealed report raw HereStr c h = tt
sealed report raw Word c h = inr h
sealed report raw Run c h = absurd h
sealed report raw Lined c h = h
sealed report raw Keyword c h = tt
sealed report raw Character c h = absurd h
sealed report raw (Error n d) c h = tt
sealed report raw (ErrorAt n d a b) c h = tt

-- of one that the end of such a word decides
abbrev Hashed : Outcome → Type 0
Hashed (Token k d) = Unit {0}
Hashed Str = ⊥
Hashed HereStr = ⊥
Hashed Word = ⊥
Hashed Run = ⊥
Hashed Lined = ⊥
Hashed Keyword = Unit {0}
Hashed Character = Unit {0}
Hashed (Error n d) = Unit {0}
Hashed (ErrorAt n d a b) = Unit {0}

hashed : (report : Bool) (raw : List ℕ) (o : Outcome) (c : ℕ) → Hashed o → HashEnd raw c → EndedBy report raw o c
hashed report raw (Token k d) c h e = λ _. e
hashed report raw Str c h e = absurd h
hashed report raw HereStr c h e = absurd h
hashed report raw Word c h e = absurd h
hashed report raw Run c h e = absurd h
hashed report raw Lined c h e = absurd h
hashed report raw Keyword c h e = tt
hashed report raw Character c h e = e
hashed report raw (Error n d) c h e = tt
hashed report raw (ErrorAt n d a b) c h e = tt

abbrev OfKind : HashKind → Type 0
OfKind (Decided o) = Hashed o
OfKind (Bracket d) = Unit {0}
OfKind Undecided = Unit {0}

-- what is known in a phase: of such words how long they are, and an item that is done is sealed
abbrev Holds : List ℕ → Phase → Type 0
Holds raw ph.InLine = Unit {0}
Holds raw ph.AfterComma = Unit {0}
Holds raw ph.AfterHash = raw ≡ spelled "#"
Holds raw ph.AfterAngle = Unit {0}
Holds raw ph.HereDelim = Unit {0}
Holds raw ph.HereStart = Unit {0}
Holds raw ph.HereBody = Unit {0}
Holds raw ph.InWord = Unit {0}
Holds raw ph.WordEscape = Unit {0}
Holds raw ph.InRun = Unit {0}
Holds raw ph.InHash = Open raw
Holds raw ph.HashEscape = 2 ≤ length raw
Holds raw ph.HashTick = Marked raw
Holds raw ph.HashComma = Marked raw
Holds raw (ph.Nest d) = Unit {0}
Holds raw (ph.NestBar d) = Unit {0}
Holds raw (ph.NestSharp d) = Unit {0}
Holds raw (ph.Quoted k) = Unit {0}
Holds raw (ph.Closed k) = Unit {0}
Holds raw (ph.TrimBefore k) = Unit {0}
Holds raw (ph.TrimAfter k) = Unit {0}
Holds raw (ph.Escape k from) = Unit {0}
Holds raw (ph.Brace k from) = Unit {0}
Holds raw (ph.Hex k closer from m) = Unit {0}
Holds raw (ph.Done o) = Sealed raw o

abbrev Goes : Bool → SoFar → ℕ → Next → Type 0
Goes report i c (Eat q) = Holds (eat i c).bytes q
Goes report i c (Stop o) = EndedBy report i.bytes o c

module _ (raw : List ℕ) where
  lined : Sealed raw (lined_of raw)
  unfolding lined_of
  lined =
      let P : Outcome → Type 0 = Sealed raw in
      if_all P (leb (length raw) 1) tt
      (if_is P (first_is (code "+") raw) (λ e. e) (λ _. if_is P (first_is (code "|") raw) (λ e. if_all P (last_is (code "|") raw) e tt) (λ _. tt)))

  at_closed : (k : Quotes) → Sealed raw (closed k raw)
  at_closed Double = tt
  at_closed Lines = lined

  of_bool : OfKind (bool_kind raw)
  unfolding bool_kind
  of_bool =
      let P : HashKind → Type 0 = OfKind in
      if_all P (same raw (spelled "#true")) tt (if_all P (same raw (spelled "#t")) tt
      (if_all P (same raw (spelled "#false")) tt (if_all P (same raw (spelled "#f")) tt tt)))

  of_quote : OfKind (quote_kind raw)
  unfolding quote_kind
  of_quote =
      let P : HashKind → Type 0 = OfKind in
      if_all P (same raw (spelled "#'")) tt (if_all P (same raw (spelled "#`")) tt
      (if_all P (same raw (spelled "#,")) tt (if_all P (same raw (spelled "#,@")) tt tt)))

  of_form : OfKind (form_kind raw)
  unfolding form_kind
  of_form =
      let P : HashKind → Type 0 = OfKind in
      if_all P (begins (spelled "#:") raw) tt
      (if_all P (begins (spelled "#\\") raw) (if_all P (leb (length raw) 2) tt tt)
      (if_all P (same raw (spelled "#")) tt (if_all P (same raw (spelled "#u8")) tt tt)))

  of_else : (j k : HashKind) → OfKind j → OfKind k → OfKind (or_else j k)
  of_else (Decided o) k p q = p
  of_else (Bracket d) k p q = p
  of_else Undecided k p q = q

  of_kind : OfKind (hash_kind raw)
  unfolding hash_kind
  of_kind = of_else (bool_kind raw) (or_else (quote_kind raw) (form_kind raw)) of_bool (of_else (quote_kind raw) (form_kind raw) of_quote of_form)

-- which characters end a word, and a run
abbrev Breaks : ℕ → InWord → Type 0
Breaks c breaks = breaks_word c ≡ true
Breaks c skips = Unit {0}
Breaks c goes = Unit {0}

breaks_is : (c : ℕ) → Breaks c (in_word c)
unfolding in_word
breaks_is c = if_is (Breaks c) (breaks_word c) (λ e. e) (λ _. if_all (Breaks c) (eqb c (code "\\")) tt tt)

abbrev StopsAt : Bool → ℕ → InRun → Type 0
StopsAt report c stays = Unit {0}
StopsAt report c stops_run = RunEnd report c
StopsAt report c leaves = Unit {0}

bars_is : (report : Bool) (raw : List ℕ) (c : ℕ) → bars_run report raw c ≡ true → RunEnd report c
bars_is true raw c e = by_bool (eqb c (code "|")) (λ f. inr (refl, eqb-true c (code "|") f)) (λ f. no_yes (rw f at e))
bars_is false raw c e = by_bool (eqb c (code "|")) (λ f. no_yes (rw f at e)) (λ f. no_yes (rw f at e))

stops_is : (report : Bool) (raw : List ℕ) (c : ℕ) → StopsAt report c (in_run report raw c)
unfolding in_run
stops_is report raw c =
    let P : InRun → Type 0 = StopsAt report c in
    if_all P (stays_run c) tt
    (if_is P (ends_run report c) (λ e. inl e) (λ _. if_is P (bars_run report raw c) (λ e. bars_is report raw c e) (λ _. tt)))

module _ (report : Bool) (i : SoFar) (c : ℕ) where
  abbrev G : Next → Type 0
  G = Goes report i c

  goes_nest : (k : InNest) (d : ℕ) → G (on_nest k d)
  goes_nest bar d = tt
  goes_nest sharp d = tt
  goes_nest inside d = tt

  goes_bar : (k : InNest) (d : ℕ) → G (on_bar k d)
  goes_bar bar d = tt
  goes_bar sharp d = if_all G (leb d 1) refl tt
  goes_bar inside d = tt

  goes_sharp : (k : InNest) (d : ℕ) → G (on_sharp k d)
  goes_sharp bar d = tt
  goes_sharp sharp d = tt
  goes_sharp inside d = tt

  goes_quoted : (k : InQuotes) (q : Quotes) → G (on_quoted k q i c)
  goes_quoted ends q = tt
  goes_quoted escapes q = tt
  goes_quoted plain q = tt

  goes_escape : (k : AfterBackslash) (q : Quotes) (from : ℕ) → G (on_escape k q from i c)
  goes_escape (simple x) q from = tt
  goes_escape hex_x q from = tt
  goes_escape hex_u q from = tt
  goes_escape blank q from = tt
  goes_escape newline q from = tt
  goes_escape invalid q from = tt

  at_failing : (raw : List ℕ) (e d from to at : ℕ) (rest : List ℕ) → Sealed raw (failing report e d from to at rest)
  at_failing raw e d from to at rest = if_all (Sealed raw) report tt tt

  goes_brace : (k : InHex) (q : Quotes) (from : ℕ) → G (on_brace report k q from i c)
  goes_brace closes q from = at_failing (eat i c).bytes kind.InvalidHexEscapeLiteral _ from _ _ _
  goes_brace stops q from = tt
  goes_brace digit q from = tt

  goes_close : (v : Result ℕ CharError) (q : Quotes) (from m : ℕ) → G (close_hex report v q from m (eat i c).at i)
  goes_close (Ok x) q from m = tt
  goes_close (Err (Wrong n d)) q from m = tt
  goes_close (Err (WrongAt n d p)) q from m = at_failing (eat i c).bytes n d from _ _ _

  goes_hex : (k : InHex) (q : Quotes) (closer from m : ℕ) → G (on_hex report k q closer from m i c)
  goes_hex closes q closer from m = goes_close (scalar_of (hex_value (drop m i.bytes))) q from m
  goes_hex stops q closer from m = tt
  goes_hex digit q closer from m = tt

  goes_before : (k : InTrim) (q : Quotes) → G (on_trim_before k q i c)
  goes_before space q = tt
  goes_before line q = tt
  goes_before solid q = tt

  goes_trim : (k : InTrim) (q : Quotes) → G (on_trim_after k q i c)
  goes_trim space q = tt
  goes_trim line q = tt
  goes_trim solid q = goes_quoted (in_quotes q c) q

  goes_word : (k : InWord) → Breaks c k → G (on_word k)
  goes_word breaks h = inl h
  goes_word skips h = tt
  goes_word goes h = tt

  goes_enter : G (enter_word c)
  goes_enter = if_all G (eqb c (code "|")) tt (goes_word (in_word c) (breaks_is c))

  goes_run : (k : InRun) → StopsAt report c k → G (on_run k c)
  goes_run stays h = tt
  goes_run stops_run h = h
  goes_run leaves h = goes_enter

  goes_then : (k : HashKind) → OfKind k → HashEnd i.bytes c → G (hash_then k c)
  goes_then (Decided o) f e = hashed report i.bytes o c f e
  goes_then (Bracket d) f e = if_all G (eqb c (code "(")) refl goes_enter
  goes_then Undecided f e = goes_enter

  goes_hash : (k : InHash) → HashClass c k → Started i.bytes → G (on_hash k i.bytes c)
  goes_hash skips_two h s = grown i.bytes c s
  goes_hash tick h s = marked i.bytes c s h
  goes_hash commas h s = marked i.bytes c s h
  goes_hash stops_hash h s = goes_then (hash_kind i.bytes) (of_kind i.bytes) (inl h)
  goes_hash stays_hash h s = opened i.bytes c s h

  goes_after : (k : AfterHash) → i.bytes ≡ spelled "#" → G (on_after_hash k i.bytes c)
  goes_after radix s = tt
  goes_after opens_nest s = tt
  goes_after datum s = refl
  goes_after twice s = tt
  goes_after angle s = tt
  goes_after value s = goes_hash (in_hash c) (hash_class c) (inr s)

  goes_delim : (k : InDelim) → G (on_delim k c)
  goes_delim ends_delim = tt
  goes_delim returns = tt
  goes_delim blank_delim = tt
  goes_delim of_delim = tt

  goes_on : (p : Phase) → Holds i.bytes p → G (step_of report p i c)
  goes_on ph.InLine h = if_all G (eqb c (code "\n")) refl tt
  goes_on ph.AfterComma h = if_all G (eqb c (code "@")) refl (λ e. no_yes e)
  goes_on ph.AfterHash h = goes_after (after_hash c) h
  goes_on ph.AfterAngle h = if_all G (eqb c (code "<")) tt goes_enter
  goes_on ph.HereDelim h = goes_delim (in_delim c)
  goes_on ph.HereStart h = tt
  goes_on ph.HereBody h = if_all G (here_ends i.bytes) tt tt
  goes_on ph.InWord h = goes_word (in_word c) (breaks_is c)
  goes_on ph.WordEscape h = tt
  goes_on ph.InRun h = goes_run (in_run report i.bytes c) (stops_is report i.bytes c)
  goes_on ph.InHash h = goes_hash (in_hash c) (hash_class c) (inl h)
  goes_on ph.HashEscape h = (omega (arith, wider i.bytes c), λ _. omega (arith, wider i.bytes c))
  goes_on ph.HashTick h = goes_then (hash_kind i.bytes) (of_kind i.bytes) (inr h)
  goes_on ph.HashComma h =
      if_is G (eqb c (code "@")) (λ e. marked_on i.bytes c h (rw (eqb-true c (code "@") e)))
      (λ _. goes_then (hash_kind i.bytes) (of_kind i.bytes) (inr h))
  goes_on (ph.Nest d) h = goes_nest (in_nest c) d
  goes_on (ph.NestBar d) h = goes_bar (in_nest c) d
  goes_on (ph.NestSharp d) h = goes_sharp (in_nest c) d
  goes_on (ph.Quoted k) h = goes_quoted (in_quotes k c) k
  goes_on (ph.Closed k) h = sealed report i.bytes (closed k i.bytes) c (at_closed i.bytes k)
  goes_on (ph.TrimBefore k) h = goes_before (in_trim c) k
  goes_on (ph.TrimAfter k) h = goes_trim (in_trim c) k
  goes_on (ph.Escape k from) h = goes_escape (after_backslash c) k from
  goes_on (ph.Brace k from) h = if_all G (eqb c (code "{")) tt (goes_brace (in_hex k (code ";") c) k from)
  goes_on (ph.Hex k closer from m) h = goes_hex (in_hex k closer c) k closer from m
  goes_on (ph.Done o) h = sealed report i.bytes o c h

-- nothing follows, or what ended it
abbrev pub Follows : Bool → List ℕ → Outcome → List ℕ → Type 0
Follows report raw o [] = Unit {0}
Follows report raw o (c ∷ cs) = EndedBy report raw o c

module _ (report : Bool) where
  at_scan : (p : Phase) (i : SoFar) (cs : List ℕ) → Holds i.bytes p
      → Follows report (scan_of report p i cs).item.bytes (scan_of report p i cs).what (scan_of report p i cs).rest
  unfolding scan_of
  at_scan p i [] h = tt
  at_scan p i (c ∷ cs) h =
      let g : Goes report i c (step_of report p i c) = goes_on report i c p h in
      by_next (step_of report p i c) (λ q e. rw (e, scan_of) (at_scan q (eat i c) cs (rw e at g))) (λ o e. rw (e, scan_of) (rw e at g))

  at_first : (c : ℕ) → Holds (utf8 c) (on_first (first_of c))
  unfolding first_of bytes_of
  at_first c =
      let P : First → Type 0 = λ f. Holds (utf8 c) (on_first f) in
      if_all P (eqb c (code ";")) tt (if_all P (eqb c (code "\"")) tt (if_all P (eqb c (code ",")) tt
      (if_is P (eqb c (code "#")) (λ e. ap utf8 (eqb-true c (code "#") e) ∙ sym (append-nil (utf8 (code "#")))) (λ _.
      if_all P (eqb c (code "(")) refl (if_all P (eqb c (code "[")) refl (if_all P (eqb c (code "{")) refl
      (if_all P (eqb c (code ")")) refl (if_all P (eqb c (code "]")) refl (if_all P (eqb c (code "}")) refl
      (if_all P (eqb c (code "'")) refl (if_all P (eqb c (code "`")) refl
      (if_all P (starts_run c) tt (if_all P (eqb c (code "|")) tt (if_all P (eqb c (code "\\")) tt tt))))))))))))))

  pub follows : (s c : ℕ) (cs : List ℕ)
      → Follows report (read_item report s c cs).item.bytes (read_item report s c cs).what (read_item report s c cs).rest
  follows s c cs = rw (item_same report s c cs) at (at_scan (on_first (first_of c)) (eat (so_far [] s) c) cs (at_first c))
