-- What a command comes to: a refusal, nodes that are shown or counted, a node that is written, paths that are dropped, or a script
-- that is run.
use Rattle.std.proofs.Common.{◌≡◌, ◌⊎◌, inl, inr, ℕ, ◌+◌, ◌-◌, ◌≤◌, Bool, true, false, cond, ◌||◌, List, [], ◌∷◌, length, refl, Option, Some, None}
use Rattle.std.specs.Prelude.{IsTrue}
use Rattle.std.specs.FinMap.{get, len}
use Rattle.std.proofs.lemmas.Bool.{cases_lt, lt-ltb}
use Rattle.khepri_terms.specs.Terms.{NameText}
use Rattle.khepri_terms.specs.declared.rec.Field.{Field}
use Rattle.khepri_terms.specs.Paths.{IsPath}
use Rattle.khepri_terms.specs.Records.{IsRec}
use Rattle.khepri_types.specs.declared.limits.TheConstants.{MAX_PATH_NAMES}
use Rattle.khepri_types.specs.declared.node.Payload.{Payload}
use Rattle.khepri_types.specs.declared.node.Payload.TheVariants.{Empty, Fields, Proc}
use Rattle.khepri_types.specs.declared.node.Node.{Node}
use Rattle.khepri_types.specs.declared.pattern.PatternPart.{PatternPart}
use Rattle.khepri_types.specs.declared.script.Statement.{Statement}
use Rattle.khepri_types.specs.declared.value.Stop.{Stop}
use Rattle.khepri_types.specs.declared.watch.Watch.{Watch}
use Rattle.khepri_types.specs.declared.watch.Watching.{Watching}
use Rattle.khepri_types.specs.declared.watch.Watching.TheVariants.{Stay}
use Rattle.khepri_types.specs.declared.command.Command.{Command}
use Rattle.khepri_types.specs.declared.command.Command.TheVariants.{Put, Create, Update, Cas, Clear, Del, Delmany, Get, Many, Count, Tx, Run}
use Rattle.khepri_types.specs.declared.reply.Reply.{Reply}
use Rattle.khepri_types.specs.declared.reply.Reply.TheVariants as reply
use Rattle.khepri_types.specs.Tree.{Tree, stands}
use Rattle.khepri_types.specs.Conditions.{holds_at}
use Rattle.khepri_types.specs.Paths.{is_under}
use Rattle.khepri_types.specs.Patterns.{matching}
use Rattle.khepri_types.specs.Drop.{drop}
use Rattle.khepri_types.specs.Settling.{settle, gone}
use Rattle.khepri_types.specs.Sizes.{fits}
use Rattle.khepri_types.specs.Watching.{set_watched, is_deep, gives_root_watches, has_deep_target, unmet_of}
use Rattle.khepri_types.specs.ScriptTexts.{IsScript}
use Rattle.khepri_types.specs.Statements.{Run as Running, Flow, Goes, Stops, script}
use Rattle.khepri_types.specs.Transactions.{unmet_among}
use Rattle.khepri_types.specs.Typing.{well_typed}
use Rattle.khepri_types.specs.Exec.{State, pv_of, applied, passed_over, refused, settle_within_limits, settle_unless, write, if_writable, is_checked, if_checked, dropped, delete, delete_all, stop_of, done_unless, ended, run_script, run_payload, run_node, shown, listed, exec_command, SaysNoChange}
use Rattle.khepri_types.specs.Spelled.{IsPayload, IsWatching, IsCommand}
use Rattle.khepri_types.proofs.Matching.{root_unmatched}
use Rattle.khepri_types.proofs.Standing.{not_root}

abbrev pub Outcome : Type 0
Outcome = Reply × State

-- a word of a refusal
abbrev pub IsRefusing : Reply → Type 0
IsRefusing (reply.Changed n k) = ⊥
IsRefusing (reply.Node pv cv kids x) = ⊥
IsRefusing (reply.Nodes m nodes) = ⊥
IsRefusing (reply.Count m) = ⊥
IsRefusing (reply.Done k values) = ⊥
IsRefusing (reply.NoWhile p) = ⊥
IsRefusing (reply.NoAbort b) = ⊥
IsRefusing r = Unit {0}

-- what is left of a changed tree
abbrev pub was_settled : State → Tree → ℕ → Outcome
was_settled S T number = (reply.Changed number (gone T), applied S (settle T))

-- p was written
abbrev pub was_set : State → List NameText → Tree → Outcome
was_set S p T = was_settled S T (pv_of (get T p))

-- these paths were dropped
abbrev pub was_dropped : State → List (List NameText) → Outcome
was_dropped S paths = was_settled S (drop S.tree paths) (len S.tree - len (drop S.tree paths))

-- a node may stand at p, or stands there
abbrev pub IsPlace : State → List NameText → Type 0
IsPlace S p = (length p ≤ MAX_PATH_NAMES) ⊎ IsTrue (stands S.tree p)

-- a command that may be written sets a payload and watches that may be, at such a path
abbrev pub Sets : Command → List NameText → Payload → Watching → Type 0
Sets c p x w = IsCommand c → IsPath p × IsPayload x × IsWatching w

-- a node of the state holds this script
abbrev pub IsHeld : State → List Statement → Type 0
IsHeld S s = (p : List NameText) × (n : Node) × (get S.tree p ≡ Some n) × (n.payload ≡ Proc s)

-- a command that may be written runs this script, which may be, or which a node holds, with arguments that may be
abbrev pub Runs : State → Command → List Field → List Statement → Type 0
Runs S c args s = IsCommand c → IsRec args × (IsScript s ⊎ IsHeld S s)

-- what is left when a script has run to its end
abbrev pub was_run : State → Running → Outcome
was_run S r = (reply.Done (gone r.scene.tree) r.values, applied S (settle r.scene.tree))

-- a property holds of each outcome that a command may have
pub record IsMet (R : Outcome → Type 0) (S : State) (c : Command) : Type 0 where
  pub refuses : (r : Reply) → IsRefusing r → R (refused S r)
  pub breaks : (p : List NameText) (x : Payload) (w : Watching) (u : Watch) → Sets c p x w → unmet_of (set_watched S.tree p x w) (get (set_watched S.tree p x w) p) ≡ Some u → R (refused S (reply.NoWhile u.target))
  pub shows : (p : List NameText) → R (shown S.tree p (get S.tree p), passed_over S)
  pub lists : (parts : List PatternPart) (limit : ℕ) → R (listed S.tree parts limit, passed_over S)
  pub counts : (parts : List PatternPart) → R (reply.Count (length (matching parts S.tree)), passed_over S)
  pub sets : (p : List NameText) (x : Payload) (w : Watching) → Sets c p x w → IsPlace S p → IsTrue (fits (settle (set_watched S.tree p x w))) → R (was_set S p (set_watched S.tree p x w))
  pub drops : (paths : List (List NameText)) → is_under paths [] ≡ false → IsTrue (fits (settle (drop S.tree paths))) → R (was_dropped S paths)
  pub runs : (args : List Field) (s : List Statement) (r : Running) → Runs S c args s → script s args [] S.tree ≡ Goes r → IsTrue (fits (settle r.scene.tree)) → R (was_run S r)
  pub stops : (args : List Field) (s : List Statement) (r : Running) (stop : Stop) → Runs S c args s → script s args [] S.tree ≡ Stops r stop → R (refused S (stop_of stop))
  pub fails : (args : List Field) (s : List Statement) (r : Running) (u : Watch) → Runs S c args s → script s args [] S.tree ≡ Goes r → unmet_among r.scene.tree r.scene.written ≡ Some u → R (refused S (reply.NoWhile u.target))

-- what holds of both branches holds of the choice
chosen : (R : Outcome → Type 0) (b : Bool) (x y : Outcome) → (b ≡ true → R x) → (b ≡ false → R y) → R (cond b x y)
chosen R true x y f g = f refl
chosen R false x y f g = g refl

not_deep : (p : List NameText) (b : Bool) → (is_deep p || b) ≡ false → length p ≤ MAX_PATH_NAMES
not_deep p b h = elim (cases_lt MAX_PATH_NAMES (length p)) as (λ _. length p ≤ MAX_PATH_NAMES) [
  | inl more ↦ absurd (cc (h, lt-ltb MAX_PATH_NAMES (length p) more))
  | inr le ↦ le
]

met-settled : (R : Outcome → Type 0) (S : State) (T : Tree) (number : ℕ) → R (refused S reply.NoFull) → (IsTrue (fits (settle T)) → R (was_settled S T number)) → R (settle_within_limits S T number)
met-settled R S T number full fit = chosen R (fits (settle T)) (was_settled S T number) (refused S reply.NoFull) fit (λ _. full)

met-unless : (R : Outcome → Type 0) (S : State) (T : Tree) (number : ℕ) (o : Option Watch) → R (refused S reply.NoFull) → ((u : Watch) → o ≡ Some u → R (refused S (reply.NoWhile u.target)))
    → (IsTrue (fits (settle T)) → R (was_settled S T number)) → R (settle_unless o S T number)
met-unless R S T number None full broken fit = met-settled R S T number full fit
met-unless R S T number (Some u) full broken fit = broken u refl

met-write : (R : Outcome → Type 0) (S : State) (c : Command) → IsMet R S c → (p : List NameText) (x : Payload) (w : Watching) → Sets c p x w → IsPlace S p → R (write S p x w)
met-write R S c m p x w may place =
    let T = set_watched S.tree p x w in
    met-unless R S T (pv_of (get T p)) (unmet_of T (get T p)) (m.refuses reply.NoFull tt) (λ u e. m.breaks p x w u may e) (m.sets p x w may place)

met-dropped : (R : Outcome → Type 0) (S : State) (c : Command) → IsMet R S c → (paths : List (List NameText)) → is_under paths [] ≡ false → R (dropped S paths)
met-dropped R S c m paths apart = met-settled R S (drop S.tree paths) (len S.tree - len (drop S.tree paths)) (m.refuses reply.NoFull tt) (m.drops paths apart)

met-delete : (R : Outcome → Type 0) (S : State) (c : Command) → IsMet R S c → (p : List NameText) → R (delete S p)
met-delete R S c m [] = m.refuses reply.NoRoot tt
met-delete R S c m (n ∷ p) = met-dropped R S c m ((n ∷ p) ∷ []) (not_root n p)

met-delete_all : (R : Outcome → Type 0) (S : State) (c : Command) → IsMet R S c → (parts : List PatternPart) → R (delete_all S parts)
met-delete_all R S c m [] = m.refuses reply.NoRoot tt
met-delete_all R S c m (P ∷ parts) = met-dropped R S c m (matching (P ∷ parts) S.tree) (root_unmatched P parts S.tree)

met-writable : (R : Outcome → Type 0) (S : State) (c : Command) → IsMet R S c → (p : List NameText) (w : Watching) (y : Outcome) → (length p ≤ MAX_PATH_NAMES → R y) → R (if_writable S p w y)
met-writable R S c m p w y h =
    let deep : Bool = is_deep p || has_deep_target w in
    chosen R (gives_root_watches p w) (refused S reply.NoRoot) (cond deep (refused S reply.NoDeep) y) (λ _. m.refuses reply.NoRoot tt)
    (λ _. chosen R deep (refused S reply.NoDeep) y (λ _. m.refuses reply.NoDeep tt) (λ e. h (not_deep p (has_deep_target w) e)))

met-checked : (R : Outcome → Type 0) (S : State) (c : Command) → IsMet R S c → (x : Payload) (y : Outcome) → R y → R (if_checked S x y)
met-checked R S c m x y h = chosen R (is_checked x) y (refused S reply.NoScript) (λ _. h) (λ _. m.refuses reply.NoScript tt)

met-done : (R : Outcome → Type 0) (S : State) (c : Command) → IsMet R S c → (args : List Field) (s : List Statement) (r : Running) → Runs S c args s → script s args [] S.tree ≡ Goes r
    → (o : Option Watch) → unmet_among r.scene.tree r.scene.written ≡ o → R (done_unless o S r.scene.tree r.values)
met-done R S c m args s r may e None h = chosen R (fits (settle r.scene.tree)) (was_run S r) (refused S reply.NoFull) (m.runs args s r may e) (λ _. m.refuses reply.NoFull tt)
met-done R S c m args s r may e (Some u) h = m.fails args s r u may e h

met-ended : (R : Outcome → Type 0) (S : State) (c : Command) → IsMet R S c → (args : List Field) (s : List Statement) → Runs S c args s → (f : Flow) → script s args [] S.tree ≡ f → R (ended S f)
met-ended R S c m args s may (Goes r) e = met-done R S c m args s r may e (unmet_among r.scene.tree r.scene.written) refl
met-ended R S c m args s may (Stops r stop) e = m.stops args s r stop may e

met-run : (R : Outcome → Type 0) (S : State) (c : Command) → IsMet R S c → (args : List Field) (s : List Statement) → Runs S c args s → R (run_script S args [] s)
met-run R S c m args s may =
    chosen R (well_typed s) (ended S (script s args [] S.tree)) (refused S reply.NoScript) (λ _. met-ended R S c m args s may (script s args [] S.tree) refl) (λ _. m.refuses reply.NoScript tt)

met-payload : (R : Outcome → Type 0) (S : State) (c : Command) → IsMet R S c → (args : List Field) → (IsCommand c → IsRec args) → (x : Payload) → ((s : List Statement) → x ≡ Proc s → IsHeld S s) → R (run_payload S args [] x)
met-payload R S c m args may Empty held = m.refuses reply.NoScript tt
met-payload R S c m args may (Fields f) held = m.refuses reply.NoScript tt
met-payload R S c m args may (Proc s) held = met-run R S c m args s (λ is. (may is, inr (held s refl)))

met-node : (R : Outcome → Type 0) (S : State) (c : Command) → IsMet R S c → (args : List Field) → (IsCommand c → IsRec args) → (p : List NameText) (o : Option Node) → get S.tree p ≡ o → R (run_node S args [] o)
met-node R S c m args may p None e = m.refuses reply.NoAbsent tt
met-node R S c m args may p (Some n) e = met-payload R S c m args may n.payload (λ s is. (p, n, e, is))

-- then it holds of the one that it has
pub met : (R : Outcome → Type 0) (S : State) (c : Command) → IsMet R S c → R (exec_command S c)
met R S (Put p x w) m =
    met-writable R S (Put p x w) m p w (if_checked S x (write S p x w)) (λ le. met-checked R S (Put p x w) m x (write S p x w) (met-write R S (Put p x w) m p x w (λ is. is) (inl le)))
met R S (Create p x w) m =
    let y : Outcome = cond (stands S.tree p) (refused S reply.NoExists) (write S p x w) in
    met-writable R S (Create p x w) m p w (if_checked S x y)
    (λ le. met-checked R S (Create p x w) m x y (chosen R (stands S.tree p) (refused S reply.NoExists) (write S p x w) (λ _. m.refuses reply.NoExists tt) (λ _. met-write R S (Create p x w) m p x w (λ is. is) (inl le))))
met R S (Update p x w) m =
    let y : Outcome = cond (stands S.tree p) (write S p x w) (refused S reply.NoAbsent) in
    met-writable R S (Update p x w) m p w (if_checked S x y)
    (λ le. met-checked R S (Update p x w) m x y (chosen R (stands S.tree p) (write S p x w) (refused S reply.NoAbsent) (λ _. met-write R S (Update p x w) m p x w (λ is. is) (inl le)) (λ _. m.refuses reply.NoAbsent tt)))
met R S (Cas p c x w) m =
    let y : Outcome = cond (holds_at c S.tree p) (write S p x w) (refused S reply.NoMismatch) in
    met-writable R S (Cas p c x w) m p w (if_checked S x y)
    (λ le. met-checked R S (Cas p c x w) m x y (chosen R (holds_at c S.tree p) (write S p x w) (refused S reply.NoMismatch) (λ _. met-write R S (Cas p c x w) m p x w (λ is. (is.0, is.2, is.3)) (inl le)) (λ _. m.refuses reply.NoMismatch tt)))
met R S (Clear p) m =
    chosen R (stands S.tree p) (write S p Empty Stay) (refused S reply.NoAbsent) (λ there. met-write R S (Clear p) m p Empty Stay (λ is. (is, tt, tt)) (inr there)) (λ _. m.refuses reply.NoAbsent tt)
met R S (Del p) m = met-delete R S (Del p) m p
met R S (Delmany parts) m = met-delete_all R S (Delmany parts) m parts
met R S (Get p) m = m.shows p
met R S (Many parts limit) m = m.lists parts limit
met R S (Count parts) m = m.counts parts
met R S (Tx args s) m = met-run R S (Tx args s) m args s (λ is. (is.0, inl is.1))
met R S (Run p args) m = met-node R S (Run p args) m args (λ is. is.1) p (get S.tree p) refl

-- ---- what each command does

-- the position rises by one
pub position-after : (S : State) (c : Command) → (exec_command S c).1.position ≡ S.position + 1
position-after S c = met (λ y. y.1.position ≡ S.position + 1) S c (record {
  refuses = λ r is. refl;
  breaks = λ p x w u may is. refl;
  shows = λ p. refl;
  lists = λ parts limit. refl;
  counts = λ parts. refl;
  sets = λ p x w may place fit. refl;
  drops = λ paths apart fit. refl;
  runs = λ args s r may e fit. refl;
  stops = λ args s r stop may e. refl;
  fails = λ args s r u may e is. refl;
})

-- the tree fits, if it did before
pub fits-after : (S : State) (c : Command) → IsTrue (fits S.tree) → IsTrue (fits (exec_command S c).1.tree)
fits-after S c h = met (λ y. IsTrue (fits y.1.tree)) S c (record {
  refuses = λ r is. h;
  breaks = λ p x w u may is. h;
  shows = λ p. h;
  lists = λ parts limit. h;
  counts = λ parts. h;
  sets = λ p x w may place fit. fit;
  drops = λ paths apart fit. fit;
  runs = λ args s r may e fit. fit;
  stops = λ args s r stop may e. h;
  fails = λ args s r u may e is. h;
})

-- a command that does not answer a change changes nothing but the position
pub unchanged-after : (S : State) (c : Command) → SaysNoChange (exec_command S c).0 → (exec_command S c).1 ≡ passed_over S
unchanged-after S c = met (λ y. SaysNoChange y.0 → y.1 ≡ passed_over S) S c (record {
  refuses = λ r is not. refl;
  breaks = λ p x w u may is not. refl;
  shows = λ p not. refl;
  lists = λ parts limit not. refl;
  counts = λ parts not. refl;
  sets = λ p x w may place fit not. absurd (not.changed _ _ refl);
  drops = λ paths apart fit not. absurd (not.changed _ _ refl);
  runs = λ args s r may e fit not. absurd (not.done _ _ refl);
  stops = λ args s r stop may e not. refl;
  fails = λ args s r u may e is not. refl;
})
