-- A text is read exactly where it is a spelling.
use Rattle.std.proofs.Common.{◌≡◌, ℕ, List, ap, ◌∙◌, Some, None}
use Rattle.khepri_types.specs.declared.command.Command.{Command}
use Rattle.khepri_types.specs.declared.command.Line.{Line}
use Rattle.khepri_types.specs.declared.out.OutLine.{OutLine}
use Rattle.khepri_types.specs.Reading.{spelled_command, line_at}
use Rattle.khepri_types.specs.ReadingOut.{out_at}
use Rattle.khepri_types.proofs.Spelling.{spelled_command-takes, spelled_command-again, line_at-takes, line_at-again}
use Rattle.khepri_types.proofs.SpellingOut.{out_at-takes, out_at-again}
use Rattle.line_text.specs.Grammar.{SpellsCommand, IsNoCommand, SpellsLine, IsNoLine, SpellsOut, IsNoOut}

pub command_read : (text : List ℕ) (cmd : Command) → spelled_command text ≡ Some cmd → SpellsCommand text cmd
command_read text cmd e = spelled_command-takes text cmd e

pub command_unread : (text : List ℕ) → spelled_command text ≡ None → IsNoCommand text
command_unread text none cmd is = let some : spelled_command text ≡ Some cmd = ap spelled_command is.0 ∙ spelled_command-again cmd is.1 in absurd cc

pub line_read : (text : List ℕ) (l : Line) → line_at text ≡ Some l → SpellsLine text l
line_read text l e = line_at-takes text l e

pub line_unread : (text : List ℕ) → line_at text ≡ None → IsNoLine text
line_unread text none l is = let some : line_at text ≡ Some l = ap line_at is.0 ∙ line_at-again l is.1 in absurd cc

pub out_read : (text : List ℕ) (x : OutLine) → out_at text ≡ Some x → SpellsOut text x
out_read text x e = out_at-takes text x e

pub out_unread : (text : List ℕ) → out_at text ≡ None → IsNoOut text
out_unread text none x is = let some : out_at text ≡ Some x = ap out_at is.0 ∙ out_at-again x is.1 in absurd cc
