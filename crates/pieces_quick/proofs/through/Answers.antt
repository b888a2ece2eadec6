-- Each move feeds on as the spot before (pieces_spots/proofs/Moves: along).
use Rattle.pieces_spots.proofs.Moves.{along}
use Rattle.pieces_quick.proofs.through.Goals as goal

pub returns-then-begun-eq-DONE_TOKEN : goal.returns-then-begun-eq-DONE_TOKEN
returns-then-begun-eq-DONE_TOKEN c =
    let piece = c.args.piece.now in
    let one = c.begin-begun in
    (one.ensures.0, along piece _ _ _ _ _ _ c.past-idle.ensures.1 one.ensures.1)

pub returns-then-ran-eq-IN_WORD : goal.returns-then-ran-eq-IN_WORD
returns-then-ran-eq-IN_WORD c =
    let piece = c.args.piece.now in
    let begun = along piece _ _ _ _ _ _ c.past-idle.ensures.1 c.begin-begun.ensures.1 in
    let ran = c.run_on-ran in
    (ran.ensures.0, along piece _ _ _ _ _ _ begun ran.ensures.1)

pub returns-then-ran-eq-IN_RUN : goal.returns-then-ran-eq-IN_RUN
returns-then-ran-eq-IN_RUN c =
    let piece = c.args.piece.now in
    let begun = along piece _ _ _ _ _ _ c.past-idle.ensures.1
    c.begin-begun.ensures.1 in
    let ran = c.run_on-ran in
    (ran.ensures.0, along piece _ _ _ _ _ _ begun ran.ensures.1)

pub returns : goal.returns
returns c =
    let piece = c.args.piece.now in
    let begun = along piece _ _ _ _ _ _ c.past-idle.ensures.1 c.begin-begun.ensures.1 in
    let ran = along piece _ _ _ _ _ _ begun c.run_on-ran.ensures.1 in
    let last = c.close in
    (last.ensures.0, along piece _ _ _ _ _ _ ran last.ensures.1)
