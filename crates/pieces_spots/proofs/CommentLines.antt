-- A comment's bytes of ASCII are those that leave it in its phase, and its newline ends it (Moves).
use Prim.Native.Nat.{ℕ, ◌+◌, ◌-◌, ◌≤◌, ◌<◌}
use native.Mathlib.Omega.{arith}
use mathlib.Core.Path.{◌≡◌, refl, sym, ap, ◌∙◌, subst}
use mathlib.Core.List.{List}
use lib.Dec.{eqb}
use lib.ListN.{length, get_or, take, drop, set, take-append-drop}
use lib.Seq.{take-take}
use borrow.Author.Tests.{eqb-true, eqb-false}
use Rattle.laws.proofs.Choice.{by_bool}
use Rattle.laws.specs.Quoted.{code}
use Rattle.laws.specs.Texts.{span}
use Rattle.laws.proofs.Runs.{span_le}
use Rattle.pieces.specs.Expected.{longest}
use Rattle.pieces.specs.Calls.{laid_at}
use Rattle.pieces_spots.specs.declared.PieceSpot.{PieceSpot}
use Rattle.pieces_spots.specs.Spots.{Fits, Onward, Keeps}
use Rattle.pieces_spots.specs.Lines.{of_line, line_done, Commented}
use Rattle.pieces_spots.proofs.Runs.{line_kept, newline_closes, looked}
use Rattle.pieces_spots.proofs.Moves.{stay, along, ran_fits, ran_on, closed_fits, closed_on}

module _ (s : PieceSpot) (buf piece : List ℕ) (fits : Fits s buf piece) (line : s.stage ≡ 7) (k n : ℕ) (room : k ≤ longest - s.len)
    (run : n ≡ span of_line (take (s.i + k - s.i) (drop s.i piece))) where
  abbrev part : List ℕ
  part = take (s.i + k - s.i) (drop s.i piece)

  pub few : (n ≤ k) × (s.i + n ≤ length piece)
  few = looked s.i k n piece fits.inside (omega (arith, run, span_le of_line part))

  abbrev pub ran : PieceSpot
  ran = record { stage = 7; start = s.start; which = s.which; detail = s.detail; at = s.at + n; len = s.len + n; i = s.i + n }

  kept : 0 < n → Keeps s.stage s.which n part
  kept = (line_kept s.stage s.which n part line (omega (arith, run))).1

  module _ (now : List ℕ) (wrote : now ≡ laid_at s.len (take n part) buf) where
    laid : now ≡ laid_at s.len (take n (drop s.i piece)) buf
    laid = wrote ∙ ap (λ (x : List ℕ). laid_at s.len x buf) (take-take n (s.i + k - s.i) (drop s.i piece) (omega (arith, few.0)))

    -- nothing was passed
    same_spot : n ≡ 0 → s ≡ ran
    same_spot z =
        let a : s.at ≡ s.at + n = omega (arith, z) in
        let l : s.len ≡ s.len + n = omega (arith, z) in
        let j : s.i ≡ s.i + n = omega (arith, z) in
        ap (λ (x : ℕ). record { stage = x; start = s.start; which = s.which; detail = s.detail; at = s.at; len = s.len; i = s.i }) line
        ∙ ap (λ (x : ℕ). record { stage = 7; start = s.start; which = s.which; detail = s.detail; at = x; len = s.len; i = s.i }) a
        ∙ ap (λ (x : ℕ). record { stage = 7; start = s.start; which = s.which; detail = s.detail; at = s.at + n; len = x; i = s.i }) l
        ∙ ap (λ (x : ℕ). record { stage = 7; start = s.start; which = s.which; detail = s.detail; at = s.at + n; len = s.len + n; i = x }) j

    same_buf : n ≡ 0 → now ≡ buf
    same_buf z = wrote ∙ ap (λ (x : ℕ). laid_at s.len (take x part) buf) z ∙ take-append-drop s.len buf

    pub line_fits_on : Fits ran now piece × Onward s buf ran now piece
    line_fits_on =
        by_bool (eqb n 0)
        (λ e. let z = eqb-true n 0 e in
        subst (λ (x : PieceSpot). Fits x now piece × Onward s buf x now piece) (same_spot z)
        (subst (λ (b : List ℕ). Fits s b piece × Onward s buf s b piece) (sym (same_buf z)) (fits, stay s buf piece)))
        (λ e. let some : 0 < n = omega (arith, eqb-false n 0 e) in
        subst (λ (x : ℕ). Fits (record { stage = x; start = s.start; which = s.which; detail = s.detail; at = s.at + n; len = s.len + n; i = s.i + n }) now piece
        × Onward s buf (record { stage = x; start = s.start; which = s.which; detail = s.detail; at = s.at + n; len = s.len + n; i = s.i + n }) now piece) line (
          ran_fits s buf piece fits n (s.i + k - s.i) some (omega (arith, fits.small)) (kept some) now laid,
          ran_on s buf piece fits n (s.i + k - s.i) some (omega (arith, fits.small)) (kept some) now laid,
        ))

    -- past the newline
    module _ (inside : s.i + n + 1 < s.i + k) (far : s.i + k ≤ length piece) (newline : get_or piece (s.i + n) 0 ≡ code "\n") (r : PieceSpot) (then : List ℕ)
        (is : r ≡ line_done s n) (set_so : then ≡ set now (s.len + n) (code "\n")) where
      pub done_fits_on : Fits r then piece × Onward s buf r then piece × (r.stage ≡ 31 → Commented r piece)
      done_fits_on =
          let F = line_fits_on in
          let told = newline_closes 7 s.which (get_or piece (s.i + n) 0) (take (s.len + n) now) refl newline in
          let at_newline : set now (s.len + n) (get_or piece (s.i + n) 0) ≡ then = ap (λ (x : ℕ). set now (s.len + n) x) newline ∙ sym set_so in
          let both : Fits r then piece × Onward s buf r then piece =
          subst (λ (x : PieceSpot). Fits x then piece × Onward s buf x then piece) (sym is)
          (subst (λ (b : List ℕ). Fits (line_done s n) b piece × Onward s buf (line_done s n) b piece) at_newline (
            closed_fits ran now piece F.0 1631 (omega arith) (omega (arith, fits.small)) told,
            along piece s buf ran now (line_done s n) _ F.1 (closed_on ran now piece F.0 1631 (omega arith) (omega (arith, fits.small)) told),
          )) in (
            both.0,
            both.1,
            λ h. record { which = ap (λ (x : PieceSpot). x.which) is; detail = ap (λ (x : PieceSpot). x.detail) is; inside = omega (arith, ap (λ (x : PieceSpot). x.i) is) },
          )
