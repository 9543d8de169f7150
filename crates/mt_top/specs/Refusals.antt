-- The lines that say why a text is not accepted, not played or not started.
use Rattle.std.specs.Prelude.{◌≡◌, ◌⊎◌, ℕ, List}
use Rattle.mt_source.specs.Sources.{IsAcceptedText, IsRefusedWith, IsOfText}
use Rattle.mt_source.specs.declared.refusal.SourceRefusal.{SourceRefusal}
use Rattle.mt_start.specs.Starts.{StartsAs, unbuilt}
use Rattle.mt_top.specs.Lines.{source_line, not_built_line}

-- the line that says why the text is not accepted: its first refusal of spelling, of the grammar, or of the rules
abbrev pub IsRefusalLine : List ℕ → List ℕ → Type 0
IsRefusalLine text line = (refusal : SourceRefusal) × IsOfText refusal × IsRefusedWith text refusal × (line ≡ source_line refusal)

-- the line that says why a text that is no small application is not played: it is not accepted, or uses what is not built
abbrev pub IsUnplayedLine : List ℕ → List ℕ → Type 0
IsUnplayedLine text line = IsRefusalLine text line ⊎ (IsAcceptedText text × (line ≡ not_built_line))

-- the line that says why a text is not started: it is not accepted, or makes at its start what is not built
abbrev pub IsUnstartedLine : List ℕ → List ℕ → Type 0
IsUnstartedLine text line = IsRefusalLine text line ⊎ (StartsAs text unbuilt × (line ≡ not_built_line))
