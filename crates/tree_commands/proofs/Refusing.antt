-- Commands that are refused.
use Rattle.std.proofs.Common.{◌≡◌, ◌+◌, Bool, true, false, List, sym, ap, Option, Some, None}
use Rattle.std.specs.Prelude.{◌||◌, if◌then◌else◌}
use Rattle.khepri_terms.specs.Terms.{NameText}
use Rattle.khepri_types.specs.declared.node.Payload.{Payload}
use Rattle.khepri_types.specs.declared.reply.Reply.{Reply}
use Rattle.khepri_types.specs.declared.reply.Reply.TheVariants as reply
use Rattle.khepri_types.specs.declared.watch.Watching.{Watching}
use Rattle.khepri_types.specs.Exec.{State, refused, is_checked, if_checked, if_writable}
use Rattle.khepri_types.specs.Tree.{Tree}
use Rattle.khepri_types.specs.Watching.{is_deep, gives_root_watches, has_deep_target}
use Rattle.tree_commands.specs.Refusals.{unwritable}
use Rattle.tree_commands.specs.Replies.{is_change, answered}

-- the first of three that refuses, by what each of them says
abbrev chosen : Bool → Bool → Bool → Option Reply
chosen root deep checked = if root then Some reply.NoRoot else (if deep then Some reply.NoDeep else (if checked then None else Some reply.NoScript))

abbrev goes_on : State → Bool → Bool → Bool → Reply × State → Reply × State
goes_on S root deep checked next = if root then refused S reply.NoRoot else (if deep then refused S reply.NoDeep else (if checked then next else refused S reply.NoScript))

answers_so : (S : State) (next : Reply × State) (r : Reply) (U : Tree) (root deep checked : Bool) → Some r ≡ chosen root deep checked → goes_on S root deep checked next ≡ answered S r U
answers_so S next r U true deep checked is = let e : reply.NoRoot ≡ r = cc in ap (λ (q : Reply). answered S q U) e
answers_so S next r U false true checked is = let e : reply.NoDeep ≡ r = cc in ap (λ (q : Reply). answered S q U) e
answers_so S next r U false false true is = absurd cc
answers_so S next r U false false false is = let e : reply.NoScript ≡ r = cc in ap (λ (q : Reply). answered S q U) e

-- what refuses a command that writes a node answers it
pub refused_so : (S : State) (p : List NameText) (x : Payload) (w : Watching) (next : Reply × State) (r : Reply) (U : Tree) → Some r ≡ unwritable p x w → if_writable S p w (if_checked S x next) ≡ answered S r U
refused_so S p x w next r U is = answers_so S next r U (gives_root_watches p w) (is_deep p || has_deep_target w) (is_checked x) is

-- what is refused by a reply that is no change
pub answered_still : (S : State) (r : Reply) (U : Tree) → is_change r ≡ false → refused S r ≡ answered S r U
answered_still S r U is = ap (λ (b : Bool). if b then (r, record S { tree = U; position = S.position + 1 }) else refused S r) (sym is)
