-- The call: style 0 in full, 1 brief, 2 JSON. Words that have no message have no bytes, and neither has any other style.
use Rattle.std.specs.Prelude.{ℕ, Bool, true, false, List, [], eqb, if◌then◌else◌}
use Rattle.laws.specs.Quoted.{code}
use Rattle.findings_render_messages.specs.declared.ToldFinding.{ToldFinding}
use Rattle.findings_render_messages.specs.Messages.{told_of, is_told}
use Rattle.findings_render.specs.Rendered.{lines}
use Rattle.findings_render.specs.Json.{json}

abbrev pub in_style : ℕ → Bool → ToldFinding → List ℕ → List ℕ → List ℕ
in_style style colour t s name =
    if eqb style 0 then lines true colour t s name
    else if eqb style 1 then lines false colour t s name
    else if eqb style 2 then json t s name
    else []

unfoldable pub rendered : List ℕ → List ℕ → List ℕ → ℕ → Bool → List ℕ
rendered f s name style colour = if is_told (told_of f s) (code ".") then in_style style colour (told_of f s) s name else []
