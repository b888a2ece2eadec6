-- Programs that meet no promise of the calls, whatever else they do: a row of specs/Told, where the definition answers otherwise, contradicts each.
use Rattle.std.specs.Prelude.{ℕ, ◌<◌, ◌≡◌, List, [], ◌∷◌, ◌++◌, get_or, replicate}
use Rattle.std.proofs.Common.{ap, ◌∙◌, arith}
use Rattle.chars.specs.Encode.{spelled}
use Rattle.lines.specs.Starts.{newline, build_of}
use Rattle.lines.specs.Place.{locate_of}
use Rattle.lines.specs.Many.{locate_all_of}
use Rattle.lines.specs.Words.{Contents, contents, open_left, piece_left, end_for}
use Rattle.lines_promises.specs.Whole.{text, index, room}
use Rattle.lines_promises.specs.Told.{Told, told, tells, tells_place, Seen, seen, sees, lines_told, place_told, all_told, opened, open_left_lem, piece_left_lem, end_forged}

-- the values are left as they were
never_untold : (m : List ℕ) → sees 0 (7 ∷ 7 ∷ 7 ∷ []) m ≡ seen (build_of text room) → ⊥
never_untold m h = let e : ◌≡◌ {A = ℕ} 7 3 = ap (λ (s : Seen). get_or s.said.values 0 0) (h ∙ lines_told) in omega (arith, e)

never_untold_place : told 0 (7 ∷ 7 ∷ 7 ∷ []) ≡ tells_place (locate_of text index 2) → ⊥
never_untold_place h = let e : ◌≡◌ {A = ℕ} 7 2 = ap (λ (t : Told). get_or t.values 0 0) (h ∙ place_told) in omega (arith, e)

-- every question for many places is refused
never_refuses_all : (n : ℕ) (v m : List ℕ) → 0 < n → sees n v m ≡ seen (locate_all_of text index (4 ∷ 3 ∷ 0 ∷ []) (replicate 7 9)) → ⊥
never_refuses_all n v m l h = let e : n ≡ 0 = ap (λ (s : Seen). s.said.number) (h ∙ all_told) in omega (arith, e, l)

-- the state's words are left as they were, by opening and by a piece
never_unopened : (m : List ℕ) → contents (replicate 8 7) m ≡ open_left (replicate 8 7) room → ⊥
never_unopened m h = let e : ◌≡◌ {A = ℕ} 7 0 = ap (λ (l : Contents). get_or l.words 0 0) (h ∙ open_left_lem) in omega (arith, e)

never_stays : (m : List ℕ) → contents opened m ≡ piece_left opened (spelled "a" ++ newline ∷ []) room → ⊥
never_stays m h = let e : ◌≡◌ {A = ℕ} 0 2 = ap (λ (l : Contents). get_or l.words 4 0) (h ∙ piece_left_lem) in omega (arith, e)

-- every end is served
never_serves : (v : List ℕ) → told 0 v ≡ tells (end_for (replicate 7 7) 4) → ⊥
never_serves v h = let e : ◌≡◌ {A = ℕ} 0 27 = ap (λ (t : Told). t.number) (h ∙ end_forged) in omega (arith, e)
