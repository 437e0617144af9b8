-- Which texts spell which values.
use Rattle.std.specs.Prelude.{◌≡◌, ℕ, List}
use Rattle.khepri_types.specs.declared.command.Command.{Command}
use Rattle.khepri_types.specs.declared.command.Line.{Line}
use Rattle.khepri_types.specs.declared.out.OutLine.{OutLine}
use Rattle.khepri_types.specs.Texts.{command_text, line_text, out_text}
use Rattle.khepri_types.specs.Spelled.{IsCommand, IsLine, HasSpelling}

-- the text is the spelling of this command
abbrev pub SpellsCommand : List ℕ → Command → Type 0
SpellsCommand text cmd = (text ≡ command_text cmd) × IsCommand cmd

-- the text is no command's spelling
abbrev pub IsNoCommand : List ℕ → Type 0
IsNoCommand text = (cmd : Command) → SpellsCommand text cmd → ⊥

-- the text is the spelling of this input line
abbrev pub SpellsLine : List ℕ → Line → Type 0
SpellsLine text l = (text ≡ line_text l) × IsLine l

-- the text is no input line's spelling
abbrev pub IsNoLine : List ℕ → Type 0
IsNoLine text = (l : Line) → SpellsLine text l → ⊥

-- the text is the spelling of this output line
abbrev pub SpellsOut : List ℕ → OutLine → Type 0
SpellsOut text x = (text ≡ out_text x) × HasSpelling x

-- the text is no output line's spelling
abbrev pub IsNoOut : List ℕ → Type 0
IsNoOut text = (x : OutLine) → SpellsOut text x → ⊥
