-- The paths at which nodes stand are short.
use Rattle.std.proofs.Common.{◌⊎◌, inl, inr, ◌≤◌, List, [], ◌∷◌, length, sym, ap, ◌∙◌, arith}
use Rattle.std.specs.Prelude.{IsTrue, is_some}
use Rattle.std.proofs.lemmas.List.{length-take}
use Rattle.khepri_terms.specs.Terms.{NameText}
use Rattle.khepri_types.specs.declared.limits.TheConstants.{MAX_PATH_NAMES}
use Rattle.khepri_types.specs.declared.command.Command.{Command}
use Rattle.khepri_types.specs.declared.out.EntryText.{EntryText}
use Rattle.khepri_types.specs.declared.out.EntryText.TheVariants as text
use Rattle.khepri_types.specs.Tree.{Tree, stands, opening_tree}
use Rattle.khepri_types.specs.Drop.{drop}
use Rattle.khepri_types.specs.Exec.{State, state_of, exec_command}
use Rattle.khepri_types.specs.History.{run_from}
use Rattle.khepri_types.specs.Watching.{set_watched}
use Rattle.khepri_types.specs.declared.watch.Watching.TheVariants.{Stay, While}
use Rattle.khepri_types.proofs.After.{met}
use Rattle.khepri_types.proofs.Everywhere.{Everywhere, IsClosed, everywhere-set, everywhere-watch, everywhere-drop, everywhere-settle}
use Rattle.khepri_types.proofs.Running.{IsKeptByChanges, script_tree}
use Rattle.khepri_types.proofs.Standing.{get-opening}

abbrev Short : List NameText → Type 0
Short q = length q ≤ MAX_PATH_NAMES

-- each path that stands is short
abbrev pub IsShort : Tree → Type 0
IsShort T = Everywhere (λ q. length q ≤ MAX_PATH_NAMES) T

short_closed : IsClosed Short
short_closed = record { fronts = λ p i le short. omega (arith, short, length-take i p) }

at_place : (T : Tree) (p : List NameText) → (length p ≤ MAX_PATH_NAMES) ⊎ IsTrue (stands T p) → IsShort T → length p ≤ MAX_PATH_NAMES
at_place T p (inl le) short = le
at_place T p (inr there) short = short p there

short_by_changes : IsKeptByChanges IsShort
short_by_changes = record {
  sets = λ T p x place short. everywhere-set Short short_closed T p x Stay (at_place T p place short) short;
  drops = λ T n p short. everywhere-drop Short T ((n ∷ p) ∷ []) short;
  gives = λ T p watches short. everywhere-watch Short T p (While watches) short;
}

pub short-after : (S : State) (c : Command) → IsShort S.tree → IsShort (exec_command S c).1.tree
short-after S c short = met (λ y. IsShort y.1.tree) S c (record {
  refuses = λ r is. short;
  breaks = λ p x w u may is. short;
  shows = λ p. short;
  lists = λ parts limit. short;
  counts = λ parts. short;
  sets = λ p x w may place fit. everywhere-settle Short (set_watched S.tree p x w) (everywhere-set Short short_closed S.tree p x w (at_place S.tree p place short) short);
  drops = λ paths apart fit. everywhere-settle Short (drop S.tree paths) (everywhere-drop Short S.tree paths short);
  runs = λ args s r may e fit. everywhere-settle Short r.scene.tree (script_tree IsShort short_by_changes s args [] S.tree r short e);
  stops = λ args s r stop may e. short;
  fails = λ args s r u may e is. short;
})

pub short-run : (es : List EntryText) (S : State) → IsShort S.tree → IsShort (run_from S es).tree
short-run [] S short = short
short-run (text.Command c ∷ es) S short = short-run es (state_of S (text.Command c)) (short-after S c short)
short-run (text.Fire s ∷ es) S short = short-run es (state_of S (text.Fire s)) short
short-run (text.Noop ∷ es) S short = short-run es (state_of S text.Noop) short

pub short-opening : IsShort opening_tree
short-opening [] h = omega arith
short-opening (n ∷ q) h = absurd (cc (sym h ∙ ap is_some (get-opening (n ∷ q))))
