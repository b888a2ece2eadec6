-- Two bytes that leave an item in its phase, a letter past ASCII or an escape: their two turns do what passing them does.
use Prim.Native.Nat.{ℕ, suc, ◌+◌, ◌-◌, ◌*◌, ◌/◌, ◌%◌, ◌≤◌, ◌<◌}
use mathlib.Core.Path.{◌≡◌, refl, sym, ap, ◌∙◌}
use mathlib.Core.Bool.{Bool, false}
use mathlib.Core.List.{List, [], ◌∷◌}
use lib.ListN.{length, get_or, drop, set, length-set}
use lib.Seq.{drop-cons}
use native.Mathlib.Omega.{arith}
use native.Mathlib.Numerals.{add-one}
use borrow.Author.Tests.{eq-eqb, lt-leb, le-leb, le-ltb}
use Rattle.laws.specs.Quoted.{code, codes}
use Rattle.chars.specs.Encode.{width, utf8}
use Rattle.chars.specs.Blank.{is_blank}
use Rattle.chars.specs.Machine.{step}
use Rattle.chars.proofs.Table.{within_in, first_c2}
use Rattle.chars.proofs.SixBits.{high, low}
use Rattle.chars.proofs.Width.{utf8-two, width-utf8}
use Rattle.chars.proofs.Blanks.{between_blanks}
use Rattle.items.specs.Items.{range}
use Rattle.items.specs.Readers.{SoFar}
use Rattle.items.specs.Classes.{in_quotes, breaks_word, in_word, after_backslash, simple}
use Rattle.items.specs.declared.Quotes.{Quotes}
use Rattle.items.specs.declared.Quotes.TheVariants.{Double, Lines}
use Rattle.items.specs.declared.Phase.{Phase}
use Rattle.items.specs.declared.Phase.TheVariants as ph
use Rattle.items.specs.declared.Next.TheVariants.{Eat}
use Rattle.items.specs.Machine.{step_of}
use Rattle.items.specs.Whole.{limit}
use Rattle.pieces.specs.declared.Stage.{Stage}
use Rattle.pieces.specs.declared.Stage.TheVariants.{Idle, Busy}
use Rattle.pieces.specs.declared.Marks.{Marks}
use Rattle.pieces.specs.declared.State.{State}
use Rattle.pieces.specs.Expected.{longest}
use Rattle.pieces.specs.Calls.{Turn, on, marks, becomes, last_of, item_so_far, report, laid_at, partly, on_stage, turn_of, after, feed_of}
use Rattle.pieces_giving.specs.Answers.{state_of}
use Rattle.pieces_giving.proofs.Laid.{laid_sets, laid_two}
use Rattle.pieces_turns.specs.Inner.{Sound}
use Rattle.pieces_turns.proofs.Sounds.{turn_sound}
use Rattle.pieces_lent.specs.Coding.{row, quotes_of, stage_of}
use Rattle.items_telling.proofs.Firsts.{past_other, past_all, past_first}
use Rattle.pieces_spots.specs.declared.PieceSpot.{PieceSpot}
use Rattle.pieces_spots.specs.Spots.{row_at, marks_at, state_at, Fits, Goes, Onward, Letter, Carries, Escapes, past_pair, with_pair}
use Rattle.pieces_spots.proofs.Turning.{Between, turned_eaten}
use Rattle.pieces_spots.proofs.Moves.{idle_stage}

-- ---- a character past ASCII is none of those that end or close something

module _ (c : ℕ) (h : 0xC0 ≤ c) (k : c < 0x800) where
  past : 0x80 ≤ c
  past = omega arith

  solid : is_blank c ≡ false
  solid = between_blanks c (omega arith) (omega arith) (λ f. omega arith) (λ f. omega arith) (λ f. omega arith) (λ f. omega arith)

  in_word_lem : (report : Bool) (i : SoFar) → step_of report ph.InWord i c ≡ Eat ph.InWord
  unfolding in_word breaks_word
  in_word_lem report i = rw (past_all (codes "([)]{}'\"`;,") refl c past, solid, past_other c (code "\\") past refl)

  in_line : (report : Bool) (i : SoFar) → step_of report ph.InLine i c ≡ Eat ph.InLine
  in_line report i = rw (past_other c (code "\n") past refl)

  in_quotes_lem : (k : Quotes) (report : Bool) (i : SoFar) → step_of report (ph.Quoted k) i c ≡ Eat (ph.Quoted k)
  unfolding in_quotes
  in_quotes_lem Double report i = rw (past_other c (code "\"") past refl, past_other c (code "\\") past refl)
  in_quotes_lem Lines report i = rw (past_other c (code "|") past refl, past_other c (code "\\") past refl)

module _ (stage which : ℕ) where
  pub word_carries : stage ≡ 14 → Carries stage which
  unfolding stage_of
  word_carries e = record { phase = ph.InWord; stands = λ start detail. rw e; eats = in_word_lem }

  pub line_carries : stage ≡ 7 → Carries stage which
  unfolding stage_of
  line_carries e = record { phase = ph.InLine; stands = λ start detail. rw e; eats = in_line }

  quoted_stands : stage ≡ 24 → (start detail : ℕ) → stage_of (row stage start which detail 0 0) ≡ Busy start (ph.Quoted (quotes_of which))
  unfolding stage_of
  quoted_stands e start detail = rw e

  pub quotes_carry : stage ≡ 24 → Carries stage which
  quotes_carry e = record { phase = ph.Quoted (quotes_of which); stands = quoted_stands e; eats = λ c h k. in_quotes_lem c h k (quotes_of which) }

  -- an escape of a backslash and one more byte
  pub simple_escapes : stage ≡ 24 → (c x : ℕ) → c < 0x80 → after_backslash c ≡ simple x → Escapes stage which c
  simple_escapes e c x small is =
      record { quotes = quotes_of which; small = small; stands = quoted_stands e; back = λ report from i. rw is }

-- a backslash begins an escape
escape_begins : (k : Quotes) (report : Bool) (i : SoFar) → step_of report (ph.Quoted k) i (code "\\") ≡ Eat (ph.Escape k i.at)
unfolding in_quotes
escape_begins Double report i = refl
escape_begins Lines report i = refl

-- ---- its two bytes

module _ (x y : ℕ) (L : Letter x y) where
  abbrev char : ℕ
  char = (x - 0xC0) * 64 + y % 64

  from : 0xC0 ≤ char
  from = omega (arith, L.first)

  below_end : char < 0x800
  below_end = omega (arith, L.few)

  lead : x ≡ 0xC0 + char / 64
  lead = omega (arith, high (x - 0xC0) y, L.first)

  second : y ≡ 0x80 + char % 64
  second = sym (low (x - 0xC0) y L.next L.last)

  wide : width char ≡ 2
  wide = sym (width-utf8 char) ∙ ap length (utf8-two char (omega (arith, from)) below_end)

  pub laid_letter : (buf : List ℕ) (n : ℕ) → n + 2 ≤ length buf → set (set buf n x) (n + 1) y ≡ laid_at n (utf8 char) buf
  laid_letter buf n room = laid_two buf n char (omega (arith, wide, room)) x y lead second (omega (arith, from)) below_end

  module _ (s : State) (b : Between s) (far : s.marks.at + 2 ≤ limit) where
    -- past the first
    abbrev half : State
    half = partly s (record { count = s.marks.part.count + 1; state = record { need = 1; low = 0x80; high = 0xBF; code = x - 0xC0 } })

    pub half_turn : turn_of s x ≡ on half
    unfolding turn_of step
    half_turn =
        rw (
          lt-leb limit (s.marks.at + s.marks.part.count) (omega (arith, b.count, far)),
          eq-eqb s.marks.part.state.need 0 b.need,
          first_c2 x (omega (arith, L.first)) L.few,
        )

    whole_turn : (g : Stage) → s.marks.stage ≡ g → turn_of half y ≡ on_stage half g char
    unfolding turn_of step
    whole_turn g here =
        rw (
          lt-leb limit (s.marks.at + (s.marks.part.count + 1)) (omega (arith, b.count, far)),
          within_in 0x80 0xBF y L.next L.last,
          le-leb (x - 0xC0) 0x7FFF (omega (arith, L.few)),
        ) (ap (λ (z : Stage). on_stage half z char) here)

    -- past both, in an item that goes on with the letter, or between items
    pub eaten_turn : (st : ℕ) (p : Phase) → s.marks.stage ≡ Busy st p → s.marks.len + 2 ≤ longest
        → ((report : Bool) (i : SoFar) → step_of report p i char ≡ Eat p)
        → turn_of half y ≡ on (becomes s (laid_at s.marks.len (utf8 char) s.buf) (Busy st p) (s.marks.at + 2) (s.marks.len + 2) (last_of s))
    eaten_turn st p here room eats =
        whole_turn (Busy st p) here ∙ rw (eats _ _, wide, le-ltb longest (s.marks.len + 2) room)

    pub begun_turn : s.marks.stage ≡ Idle
        → turn_of half y ≡ on (becomes s (laid_at 0 (utf8 char) s.buf) (Busy s.marks.at ph.InWord) (s.marks.at + 2) 2 (last_of s))
    begun_turn here = whole_turn Idle here ∙ rw (solid char from below_end, wide, past_first char (past char from below_end))

-- ---- from spot to spot

module _ (m : Marks) (text piece : List ℕ) (s : PieceSpot) (buf : List ℕ) (r : PieceSpot) (now : List ℕ) (h : Sound (marks_at m s) buf text) (mid : State)
    (inside : s.i + 2 ≤ length piece) (on-two : r.i ≡ s.i + 2) (one : turn_of (state_at m s buf) (get_or piece s.i 0) ≡ on mid)
    (two : turn_of mid (get_or piece (s.i + 1) 0) ≡ on (state_at m r now)) where
  turns_go : Goes m text piece s buf r now
  unfolding feed_of
  turns_go =
      let i = s.i in
      let x = get_or piece i 0 in
      let y = get_or piece (i + 1) 0 in
      let rest = drop (suc (suc i)) piece in
      let front : drop i piece ≡ x ∷ y ∷ rest =
      drop-cons piece i 0 (omega arith)
      ∙ ap (λ (l : List ℕ). x ∷ l) (drop-cons piece (suc i) 0 (omega arith) ∙ ap (λ (k : ℕ). get_or piece k 0 ∷ rest) (sym (add-one i))) in
      let next : r.i ≡ suc (suc i) = omega (arith, on-two) in
      let sum : suc (suc i) ≡ i + 1 + 1 = omega arith in
      record {
        sound = turn_sound mid.marks mid.buf text (turn_sound (marks_at m s) buf text h x mid.marks mid.buf (sym one)) y (marks_at m r) now (sym two);
        feeds =
            ap (λ (k : ℕ). feed_of (state_at m r now) (drop k piece) k) next
            ∙ ap (λ (k : ℕ). feed_of (state_at m r now) rest k) sum
            ∙ ap (λ (t : Turn). after t (λ u. feed_of u rest (i + 1 + 1)) (i + 1 + 1)) (sym two)
            ∙ ap (λ (t : Turn). after t (λ u. feed_of u (y ∷ rest) (i + 1)) (i + 1)) (sym one)
            ∙ ap (λ (l : List ℕ). feed_of (state_at m s buf) l i) (sym front);
      }

module _ (s : PieceSpot) (buf piece : List ℕ) (fits : Fits s buf piece) where
  abbrev x_at : ℕ
  x_at = get_or piece s.i 0

  abbrev y_at : ℕ
  y_at = get_or piece (s.i + 1) 0

  -- past two bytes that leave an item in its phase
  module _ (inside : s.i + 2 ≤ length piece) (room : s.len + 2 ≤ longest) where
    pub pair_fits : Fits (past_pair s) (with_pair s buf piece) piece
    pair_fits = record {
      full = length-set (set buf s.len x_at) (s.len + 1) y_at ∙ length-set buf s.len x_at ∙ fits.full;
      inside = inside;
      far = omega (arith, fits.far);
      small = room;
      held = λ h. let k = fits.held h in (omega (arith, k.0), omega (arith, k.1));
      rows = fits.rows;
      which = fits.which;
      detail = fits.detail;
    }

    -- the state there, by its stage and its buffer
    reached : (m : Marks) (g : Stage) (l : List ℕ) → stage_of (row_at s) ≡ g → with_pair s buf piece ≡ l
        → state_of (marks m g (s.at + 2) (s.len + 2) (range m.from m.to)) l ≡ state_at m (past_pair s) (with_pair s buf piece)
    reached m g l e f = rw (← e, ← f)

    pub letter_on : Letter x_at y_at → Carries s.stage s.which → Onward s buf (past_pair s) (with_pair s buf piece) piece
    letter_on L C m text h =
        let c = char x_at y_at L in
        let S = state_at m s buf in
        let between : Between S = record { count = refl; need = refl; far = omega (arith, fits.far) } in
        let far : s.at + 2 ≤ limit = omega (arith, fits.far) in
        let stands = C.stands s.start s.detail in
        turns_go m text piece s buf (past_pair s) (with_pair s buf piece) h (half x_at y_at L S between far) inside refl
        (half_turn x_at y_at L S between far)
        (eaten_turn x_at y_at L S between far s.start C.phase stands room
        (C.eats c (from x_at y_at L) (below_end x_at y_at L))
        ∙ ap on (reached m (Busy s.start C.phase) _ stands (laid_letter x_at y_at L buf s.len (omega (arith, fits.full)))))

    pub escape_on : x_at ≡ code "\\" → Escapes s.stage s.which y_at → Onward s buf (past_pair s) (with_pair s buf piece) piece
    escape_on e E m text h =
        let S = state_at m s buf in
        let k = E.quotes in
        let n = s.len in
        let between : Between S = record { count = refl; need = refl; far = omega (arith, fits.far) } in
        let stands = E.stands s.start s.detail in
        let first = laid_at n (x_at ∷ []) buf in
        let mid : State = becomes S first (Busy s.start (ph.Escape k s.at)) (s.at + 1) (n + 1) (last_of S) in
        let next : Between mid = record { count = refl; need = refl; far = omega (arith, fits.far) } in
        let begun : step_of (report S) (ph.Quoted k) (item_so_far S) x_at ≡ Eat (ph.Escape k s.at) = rw e (escape_begins k (report S) (item_so_far S)) in
        let at : s.at + 1 + 1 ≡ s.at + 2 = omega arith in
        let len : n + 1 + 1 ≡ n + 2 = omega arith in
        let laid : with_pair s buf piece ≡ laid_at (n + 1) (y_at ∷ []) first =
        laid_sets (n + 1) (y_at ∷ []) (set buf n x_at) (omega (arith, length-set buf n x_at, fits.full))
        ∙ ap (laid_at (n + 1) (y_at ∷ [])) (laid_sets n (x_at ∷ []) buf (omega (arith, fits.full))) in
        turns_go m text piece s buf (past_pair s) (with_pair s buf piece) h mid inside refl
        (turned_eaten S between s.start (ph.Quoted k) (ph.Escape k s.at) stands x_at (omega (arith, e)) (omega arith) begun)
        (turned_eaten mid next s.start (ph.Escape k s.at) (ph.Quoted k) refl y_at E.small (omega arith) (E.back (report mid) s.at (item_so_far mid))
        ∙ ap (λ (a : ℕ). on (state_of (marks m (Busy s.start (ph.Quoted k)) a (n + 1 + 1) (range m.from m.to)) (laid_at (n + 1) (y_at ∷ []) first))) at
        ∙ ap (λ (a : ℕ). on (state_of (marks m (Busy s.start (ph.Quoted k)) (s.at + 2) a (range m.from m.to)) (laid_at (n + 1) (y_at ∷ []) first))) len
        ∙ ap on (reached m (Busy s.start (ph.Quoted k)) _ stands laid))

  module _ (idle : s.stage ≡ 3) (inside : s.i + 2 ≤ length piece) (L : Letter x_at y_at) where
    abbrev begun : PieceSpot
    begun = record { stage = 14; start = s.at; which = 0; detail = 0; at = s.at + 2; len = 2; i = s.i + 2 }

    abbrev first_laid : List ℕ
    first_laid = set (set buf 0 x_at) 1 y_at

    pub first_fits : Fits begun first_laid piece
    unfolding stage_of
    first_fits = record {
      full = length-set (set buf 0 x_at) 1 y_at ∙ length-set buf 0 x_at ∙ fits.full;
      inside = inside;
      far = omega (arith, fits.far);
      small = omega arith;
      held = λ h. (refl, omega arith);
      rows = refl;
      which = omega arith;
      detail = omega arith;
    }

    pub first_on : Onward s buf begun first_laid piece
    unfolding stage_of
    first_on m text h =
        let S = state_at m s buf in
        let between : Between S = record { count = refl; need = refl; far = omega (arith, fits.far, inside) } in
        let far : s.at + 2 ≤ limit = omega (arith, fits.far, inside) in
        turns_go m text piece s buf begun first_laid h (half x_at y_at L S between far) inside refl
        (half_turn x_at y_at L S between far)
        (begun_turn x_at y_at L S between far (idle_stage s idle)
        ∙ ap (λ (l : List ℕ). on (state_of (marks m (Busy s.at ph.InWord) (s.at + 2) 2 (range m.from m.to)) l)) (sym (laid_letter x_at y_at L buf 0 (omega (arith, fits.full)))))
