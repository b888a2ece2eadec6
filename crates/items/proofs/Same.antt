-- The machine, from each phase on, reads what the reader of that phase reads: a line for each class of a character.
use Rattle.items.specs.declared.Quotes.{Quotes}
use Rattle.items.specs.declared.Quotes.TheVariants.{Double, Lines}
use Rattle.items.specs.declared.Outcome.{Outcome}
use Rattle.items.specs.declared.Outcome.TheVariants.{HereStr}
use Rattle.items.specs.declared.Next.{Next}
use Rattle.items.specs.declared.Next.TheVariants.{Eat, Stop}
use Rattle.items.specs.Classes.{first_of, in_quotes, after_backslash, in_hex, in_trim, in_nest, in_word, in_run, after_hash, in_hash, in_delim}
use Rattle.items.specs.Machine.{enter_word, hash_then, hash_last, on_first, scan_of}
use Rattle.items.specs.Readers.{closed, so_far, eat, got, read_line, read_nest, after_bar, after_sharp, scalar_of, read_quoted, read_escape}
use Rattle.items.specs.Readers.{read_brace, read_hex, read_trim, read_word_on, word_skip, read_word, read_run, hash_kind, hash_bracket, hash_at}
use Rattle.items.specs.Readers.{hash_comma, hash_on, hash_skip, here_ends, here_body, here_delim, after_angle, read_hash, read_comma, read_item}
use Rattle.items.specs.Readers.{SoFar, Read}
use Rattle.items.proofs.Cases.{by_first, by_quotes, by_backslash, by_hex, by_trim, by_nest, by_word, by_run, by_after, by_hash}
use Rattle.items.proofs.Cases.{by_delim, by_value, by_kind}
use Rattle.laws.specs.Quoted.{code}
use Rattle.laws.proofs.Choice.{by_bool}
use Rattle.digits.specs.Hex.{hex_value}
use Prim.Native.Nat.{ℕ, ◌+◌, ◌-◌}
use mathlib.Core.Path.{◌≡◌, refl}
use mathlib.Core.Bool.{Bool, true, false}
use mathlib.Core.List.{List, [], ◌∷◌}
use lib.ListN.{length, drop}
use lib.Dec.{eqb, leb}
use Rattle.items.specs.declared.Phase.TheVariants as ph

-- `i` is the item so far
module _ (report : Bool) where
  done_same : (o : Outcome) (i : SoFar) (cs : List ℕ) → scan_of report (ph.Done o) i cs ≡ got o i cs
  unfolding scan_of
  done_same o i [] = refl
  done_same o i (c ∷ cs) = refl

  closed_same : (k : Quotes) (i : SoFar) (cs : List ℕ) → scan_of report (ph.Closed k) i cs ≡ got (closed k i.bytes) i cs
  unfolding scan_of
  closed_same k i [] = refl
  closed_same k i (c ∷ cs) = refl

  -- ---- comments

  line_same : (i : SoFar) (cs : List ℕ) → scan_of report ph.InLine i cs ≡ read_line i cs
  unfolding scan_of read_line
  line_same i [] = refl
  line_same i (c ∷ cs) = by_bool (eqb c (code "\n"))
      (λ e. rw (e, scan_of, read_line) (done_same _ (eat i c) cs))
      (λ e. rw (e, scan_of, read_line) (line_same (eat i c) cs))

  mutual
    unfolding scan_of read_nest

    nest_same : (d : ℕ) (i : SoFar) (cs : List ℕ) → scan_of report (ph.Nest d) i cs ≡ read_nest d i cs
    nest_same d i [] = refl
    nest_same d i (c ∷ cs) = by_nest (in_nest c)
        (λ e. rw (e, scan_of, read_nest) (bar_same d (eat i c) cs))
        (λ e. rw (e, scan_of, read_nest) (sharp_same d (eat i c) cs))
        (λ e. rw (e, scan_of, read_nest) (nest_same d (eat i c) cs))

    bar_same : (d : ℕ) (i : SoFar) (cs : List ℕ) → scan_of report (ph.NestBar d) i cs ≡ after_bar d i cs
    bar_same d i [] = refl
    bar_same d i (c ∷ cs) = by_nest (in_nest c)
        (λ e. rw (e, scan_of, after_bar) (bar_same d (eat i c) cs))
        (λ e. rw (e, scan_of, after_bar) (by_bool (leb d 1)
        (λ f. rw f (done_same _ (eat i c) cs))
        (λ f. rw f (nest_same (d - 1) (eat i c) cs))))
        (λ e. rw (e, scan_of, after_bar) (nest_same d (eat i c) cs))

    sharp_same : (d : ℕ) (i : SoFar) (cs : List ℕ) → scan_of report (ph.NestSharp d) i cs ≡ after_sharp d i cs
    sharp_same d i [] = refl
    sharp_same d i (c ∷ cs) = by_nest (in_nest c)
        (λ e. rw (e, scan_of, after_sharp) (nest_same (d + 1) (eat i c) cs))
        (λ e. rw (e, scan_of, after_sharp) (sharp_same d (eat i c) cs))
        (λ e. rw (e, scan_of, after_sharp) (nest_same d (eat i c) cs))

  -- ---- quotes

  mutual
    unfolding scan_of read_quoted

    quoted_same : (k : Quotes) (i : SoFar) (cs : List ℕ) → scan_of report (ph.Quoted k) i cs ≡ read_quoted report k i cs
    quoted_same k i [] = refl
    quoted_same k i (c ∷ cs) = by_quotes (in_quotes k c)
        (λ e. rw (e, scan_of, read_quoted) (closed_same k (eat i c) cs))
        (λ e. rw (e, scan_of, read_quoted) (escape_same k i.at (eat i c) cs))
        (λ e. rw (e, scan_of, read_quoted) (quoted_same k (eat i c) cs))

    escape_same : (k : Quotes) (from : ℕ) (i : SoFar) (cs : List ℕ) → scan_of report (ph.Escape k from) i cs ≡ read_escape report k from i cs
    escape_same k from i [] = refl
    escape_same k from i (c ∷ cs) = by_backslash (after_backslash c)
        (λ x e. rw (e, scan_of, read_escape) (quoted_same k (eat i c) cs))
        (λ e. rw (e, scan_of, read_escape) (hex_same k (code ";") from (length (eat i c).bytes) (eat i c) cs))
        (λ e. rw (e, scan_of, read_escape) (brace_same k from (eat i c) cs))
        (λ e. rw (e, scan_of, read_escape) (before_same k (eat i c) cs))
        (λ e. rw (e, scan_of, read_escape) (after_same k (eat i c) cs))
        (λ e. rw (e, scan_of, read_escape))

    brace_same : (k : Quotes) (from : ℕ) (i : SoFar) (cs : List ℕ) → scan_of report (ph.Brace k from) i cs ≡ read_brace report k from i cs
    brace_same k from i [] = refl
    brace_same k from i (c ∷ cs) = by_bool (eqb c (code "{"))
        (λ e. rw (e, scan_of, read_brace) (hex_same k (code "}") from (length (eat i c).bytes) (eat i c) cs))
        (λ e. rw (e, scan_of, read_brace) (by_hex (in_hex k (code ";") c)
        (λ f. rw f (done_same _ (eat i c) cs))
        (λ f. rw f (done_same _ (eat i c) cs))
        (λ f. rw f (hex_same k (code ";") from (length i.bytes) (eat i c) cs))))

    hex_same : (k : Quotes) (closer from n : ℕ) (i : SoFar) (cs : List ℕ) → scan_of report (ph.Hex k closer from n) i cs ≡ read_hex report k closer from n i cs
    hex_same k closer from n i [] = refl
    hex_same k closer from n i (c ∷ cs) = by_hex (in_hex k closer c)
        (λ e. rw (e, scan_of, read_hex) (by_value (scalar_of (hex_value (drop n i.bytes)))
        (λ v f. rw f (quoted_same k (eat i c) cs))
        (λ w d f. rw f (done_same _ (eat i c) cs))
        (λ w d p f. rw f (done_same _ (eat i c) cs))))
        (λ e. rw (e, scan_of, read_hex) (done_same _ (eat i c) cs))
        (λ e. rw (e, scan_of, read_hex) (hex_same k closer from n (eat i c) cs))

    before_same : (k : Quotes) (i : SoFar) (cs : List ℕ) → scan_of report (ph.TrimBefore k) i cs ≡ read_trim report k false i cs
    before_same k i [] = refl
    before_same k i (c ∷ cs) = by_trim (in_trim c)
        (λ e. rw (e, scan_of, read_trim) (before_same k (eat i c) cs))
        (λ e. rw (e, scan_of, read_trim) (after_same k (eat i c) cs))
        (λ e. rw (e, scan_of, read_trim))

    after_same : (k : Quotes) (i : SoFar) (cs : List ℕ) → scan_of report (ph.TrimAfter k) i cs ≡ read_trim report k true i cs
    after_same k i [] = refl
    after_same k i (c ∷ cs) = by_trim (in_trim c)
        (λ e. rw (e, scan_of, read_trim) (after_same k (eat i c) cs))
        (λ e. rw (e, scan_of, read_trim) (quoted_same k (eat i c) cs))
        (λ e. rw (e, scan_of, read_trim) (by_quotes (in_quotes k c)
        (λ f. rw f (closed_same k (eat i c) cs))
        (λ f. rw f (escape_same k i.at (eat i c) cs))
        (λ f. rw f (quoted_same k (eat i c) cs))))

  -- ---- words and number runs

  -- what is read after a step
  abbrev after : Next → SoFar → ℕ → List ℕ → Read
  after n i c cs = elim n [ Eat q ↦ scan_of report q (eat i c) cs | Stop o ↦ got o i (c ∷ cs) ]

  mutual
    unfolding scan_of read_word_on

    word_same : (i : SoFar) (cs : List ℕ) → scan_of report ph.InWord i cs ≡ read_word_on i cs
    word_same i [] = refl
    word_same i (c ∷ cs) = by_word (in_word c)
        (λ e. rw (e, scan_of, read_word_on))
        (λ e. rw (e, scan_of, read_word_on) (skip_same (eat i c) cs))
        (λ e. rw (e, scan_of, read_word_on) (word_same (eat i c) cs))

    skip_same : (i : SoFar) (cs : List ℕ) → scan_of report ph.WordEscape i cs ≡ word_skip i cs
    skip_same i [] = refl
    skip_same i (c ∷ cs) = word_same (eat i c) cs

  enter_same : (i : SoFar) (c : ℕ) (cs : List ℕ) → after (enter_word c) i c cs ≡ read_word report i (c ∷ cs)
  unfolding read_word scan_of
  enter_same i c cs = by_bool (eqb c (code "|"))
      (λ e. rw (e, read_word) (quoted_same Lines (eat i c) cs))
      (λ e. rw (e, read_word) (word_same i (c ∷ cs)))

  run_same : (i : SoFar) (cs : List ℕ) → scan_of report ph.InRun i cs ≡ read_run report i cs
  unfolding scan_of read_run
  run_same i [] = refl
  run_same i (c ∷ cs) = by_run (in_run report i.bytes c)
      (λ e. rw (e, scan_of, read_run) (run_same (eat i c) cs))
      (λ e. rw (e, scan_of, read_run))
      (λ e. rw (e, scan_of, read_run) (enter_same i c cs))

  -- ---- hash forms

  then_same : (i : SoFar) (c : ℕ) (cs : List ℕ) → after (hash_then (hash_kind i.bytes) c) i c cs ≡ hash_at report i (c ∷ cs)
  unfolding hash_at hash_bracket
  then_same i c cs = by_kind (hash_kind i.bytes)
      (λ o e. rw (e, hash_at))
      (λ d e. rw (e, hash_at) (by_bool (eqb c (code "("))
      (λ f. rw (f, hash_bracket) (done_same _ (eat i c) cs))
      (λ f. rw (f, hash_bracket) (enter_same i c cs))))
      (λ e. rw (e, hash_at) (enter_same i c cs))

  last_same : (i : SoFar) → got (hash_last (hash_kind i.bytes)) i [] ≡ hash_at report i []
  unfolding hash_at hash_bracket read_word
  last_same i = by_kind (hash_kind i.bytes) (λ o e. rw (e, hash_at)) (λ d e. rw (e, hash_at)) (λ e. rw (e, hash_at))

  tick_same : (i : SoFar) (cs : List ℕ) → scan_of report ph.HashTick i cs ≡ hash_at report i cs
  unfolding scan_of
  tick_same i [] = last_same i
  tick_same i (c ∷ cs) = then_same i c cs

  commas_same : (i : SoFar) (cs : List ℕ) → scan_of report ph.HashComma i cs ≡ hash_comma report i cs
  unfolding scan_of hash_comma
  commas_same i [] = last_same i
  commas_same i (c ∷ cs) = by_bool (eqb c (code "@"))
      (λ e. rw (e, scan_of, hash_comma) (tick_same (eat i c) cs))
      (λ e. rw (e, scan_of, hash_comma) (then_same i c cs))

  mutual
    unfolding scan_of hash_on

    hash_same : (i : SoFar) (cs : List ℕ) → scan_of report ph.InHash i cs ≡ hash_on report i cs
    hash_same i [] = last_same i
    hash_same i (c ∷ cs) = by_hash (in_hash c)
        (λ e. rw (e, scan_of, hash_on) (two_same (eat i c) cs))
        (λ e. rw (e, scan_of, hash_on) (tick_same (eat i c) cs))
        (λ e. rw (e, scan_of, hash_on) (commas_same (eat i c) cs))
        (λ e. rw (e, scan_of, hash_on) (then_same i c cs))
        (λ e. rw (e, scan_of, hash_on) (hash_same (eat i c) cs))

    two_same : (i : SoFar) (cs : List ℕ) → scan_of report ph.HashEscape i cs ≡ hash_skip report i cs
    two_same i [] = last_same i
    two_same i (c ∷ cs) = hash_same (eat i c) cs

  -- ---- here-strings

  -- a body that ends with its delimiter stops before the next character; any other goes on
  ended_same : (i : SoFar) (cs : List ℕ) → here_ends i.bytes ≡ true → scan_of report ph.HereBody i cs ≡ got HereStr i cs
  unfolding scan_of
  ended_same i [] e = rw e
  ended_same i (c ∷ cs) e = rw (e, scan_of)

  body_same : (i : SoFar) (cs : List ℕ) → here_ends i.bytes ≡ false → scan_of report ph.HereBody i cs ≡ here_body i cs
  unfolding scan_of here_body
  body_same i [] e = rw e
  body_same i (c ∷ cs) e = rw (e, scan_of) (by_bool (here_ends (eat i c).bytes)
      (λ f. rw (f, here_body) (ended_same (eat i c) cs f))
      (λ f. rw (f, here_body) (body_same (eat i c) cs f)))

  start_same : (i : SoFar) (cs : List ℕ) → scan_of report ph.HereStart i cs ≡ here_body i cs
  unfolding scan_of here_body
  start_same i [] = refl
  start_same i (c ∷ cs) = by_bool (here_ends (eat i c).bytes)
      (λ f. rw (f, here_body) (ended_same (eat i c) cs f))
      (λ f. rw (f, here_body) (body_same (eat i c) cs f))

  delim_same : (i : SoFar) (cs : List ℕ) → scan_of report ph.HereDelim i cs ≡ here_delim i cs
  unfolding scan_of here_delim
  delim_same i [] = refl
  delim_same i (c ∷ cs) = by_delim (in_delim c)
      (λ e. rw (e, scan_of, here_delim) (start_same (eat i c) cs))
      (λ e. rw (e, scan_of, here_delim) (delim_same (eat i c) cs))
      (λ e. rw (e, scan_of, here_delim) (done_same _ (eat i c) cs))
      (λ e. rw (e, scan_of, here_delim) (delim_same (eat i c) cs))

  -- ---- an item

  angle_same : (i : SoFar) (cs : List ℕ) → scan_of report ph.AfterAngle i cs ≡ after_angle report i cs
  unfolding scan_of after_angle
  angle_same i [] = refl
  angle_same i (c ∷ cs) = by_bool (eqb c (code "<"))
      (λ e. rw (e, scan_of, after_angle) (delim_same (eat i c) cs))
      (λ e. rw (e, scan_of, after_angle) (enter_same i c cs))

  pound_same : (i : SoFar) (cs : List ℕ) → scan_of report ph.AfterHash i cs ≡ read_hash report i cs
  unfolding scan_of read_hash
  pound_same i [] = last_same i
  pound_same i (c ∷ cs) = by_after (after_hash c)
      (λ e. rw (e, scan_of, read_hash) (run_same (eat i c) cs))
      (λ e. rw (e, scan_of, read_hash) (nest_same 1 (eat i c) cs))
      (λ e. rw (e, scan_of, read_hash) (done_same _ (eat i c) cs))
      (λ e. rw (e, scan_of, read_hash) (done_same _ (eat i c) cs))
      (λ e. rw (e, scan_of, read_hash) (angle_same (eat i c) cs))
      (λ e. rw (e, scan_of, read_hash) (hash_same i (c ∷ cs)))

  comma_same : (i : SoFar) (cs : List ℕ) → scan_of report ph.AfterComma i cs ≡ read_comma i cs
  unfolding scan_of read_comma
  comma_same i [] = refl
  comma_same i (c ∷ cs) = by_bool (eqb c (code "@"))
      (λ e. rw (e, scan_of, read_comma) (done_same _ (eat i c) cs))
      (λ e. rw (e, scan_of, read_comma))

  pub item_same : (at c : ℕ) (cs : List ℕ) → scan_of report (on_first (first_of c)) (eat (so_far [] at) c) cs ≡ read_item report at c cs
  unfolding read_item
  item_same at c cs =
      let i : SoFar = eat (so_far [] at) c in
      by_first (first_of c)
      (λ e. rw (e, read_item) (line_same i cs))
      (λ e. rw (e, read_item) (quoted_same Double i cs))
      (λ e. rw (e, read_item) (comma_same i cs))
      (λ e. rw (e, read_item) (pound_same i cs))
      (λ e. rw (e, read_item) (run_same i cs))
      (λ k d e. rw (e, read_item) (done_same _ i cs))
      (λ e. rw (e, read_item) (quoted_same Lines i cs))
      (λ e. rw (e, read_item) (skip_same i cs))
      (λ e. rw (e, read_item) (word_same i cs))
