-- A session of one node is legal, rule by rule.
use Rattle.std.proofs.Common.{◌≡◌, inl, inr, ℕ, ◌+◌, ◌-◌, ◌*◌, ◌≤◌, List, [], ◌∷◌, length, take, refl, sym, ap, subst, ◌∙◌, arith, Option, Some, None}
use Rattle.std.specs.Prelude.{IsTrue, is_some}
use Rattle.std.specs.FinMap.{get, len}
use Rattle.khepri_terms.specs.Terms.{NameText}
use Rattle.khepri_types.specs.declared.limits.TheConstants.{MAX_INPUT_BYTES, MAX_TREE_NODES, MAX_VERSION_RISE}
use Rattle.khepri_types.specs.declared.command.Command.{Command}
use Rattle.khepri_types.specs.declared.node.Node.{Node}
use Rattle.khepri_types.specs.declared.pattern.PatternPart.{PatternPart}
use Rattle.khepri_types.specs.declared.reply.Reply.{Reply}
use Rattle.khepri_types.specs.declared.reply.Reply.TheVariants as reply
use Rattle.khepri_types.specs.declared.command.Line.TheVariants as line
use Rattle.khepri_types.specs.declared.out.EntryText.TheVariants as text
use Rattle.khepri_types.specs.declared.out.OutLine.{OutLine}
use Rattle.khepri_types.specs.declared.out.OutLine.TheVariants as out
use Rattle.khepri_types.specs.Tree.{Tree, IsTree}
use Rattle.khepri_types.specs.Settling.{gone}
use Rattle.khepri_types.specs.Watching.{set_watched}
use Rattle.khepri_types.specs.Drop.{drop}
use Rattle.khepri_types.specs.Sizes.{kids, fits}
use Rattle.khepri_types.specs.declared.value.Refusal.{Refusal}
use Rattle.khepri_types.specs.declared.value.Refusal.TheVariants.{Root, Deep, Absent as Missing, Full, Name}
use Rattle.khepri_types.specs.declared.value.Stop.{Stop}
use Rattle.khepri_types.specs.declared.value.Stop.TheVariants.{Abort, Spent, Refused as RefusedBy}
use Rattle.khepri_types.specs.Statements.{Goes, Stops, no_of}
use Rattle.khepri_types.specs.Exec.{State, opening_state, stop_of, shown, shown_node, listed, exec_command}
use Rattle.khepri_types.specs.Patterns.{matching_nodes, matching}
use Rattle.khepri_types.specs.Spelled.{IsNumber, IsCommand, IsShownNode, IsReply, HasSpelling}
use Rattle.khepri_types.specs.Reading.{line_at}
use Rattle.khepri_types.specs.History.{empty_opening, history, run_from}
use Rattle.khepri_types.specs.Legal.{read_line, command_in, command_of, named, AtEach, Numbered, Carried, Explained, Answered, Awaited, Lost, Shown, Refused, Once, Rising, OneLeader, Legal}
use Rattle.khepri_types.specs.Calm.{answers, calm}
use Rattle.khepri_types.proofs.Dropping.{len-drop}
use Rattle.khepri_types.proofs.After.{IsRefusing, met}
use Rattle.khepri_types.proofs.Fitting.{fits-history, few_nodes, kids-le}
use Rattle.khepri_types.proofs.Legible.{IsLegible, IsStopWritten, run_writes, unmet_among-spelled}
use Rattle.khepri_types.proofs.Payloads.{AllSpelled, spelled-opening, spelled-set_watched, unmet-spelled}
use Rattle.khepri_types.proofs.Matching.{few_matched, All-map, each_matched}
use Rattle.khepri_types.proofs.PathsWritten.{AllWritten, written-opening}
use Rattle.khepri_types.proofs.Standing.{tree-opening}
use Rattle.khepri_types.proofs.Staying.{tree-run}
use Rattle.khepri_types.proofs.Versions.{IsWithin, AllWithin, end-high, counted-script, few_made, within-history}
use Rattle.khepri_types.proofs.Watched.{pv-set_watched}
use Rattle.khepri_types.proofs.Outputs.{All-at, AtEach-all, entered-before, settled-before, entered-after}
use Rattle.khepri_types.proofs.Amid.{Amid, entry_line, input-here, number-within, late, IsKept, kept}

-- ---- what a reply holds

few_numbers : (n : ℕ) → n ≤ MAX_TREE_NODES + 33 → IsNumber n
few_numbers n le = omega arith

refusing-spelled : (r : Reply) → IsRefusing r → IsReply r
refusing-spelled (reply.Changed n k) is = absurd is
refusing-spelled (reply.Node pv cv n x) is = absurd is
refusing-spelled (reply.Nodes m nodes) is = absurd is
refusing-spelled (reply.Count m) is = absurd is
refusing-spelled (reply.Done k values) is = absurd is
refusing-spelled (reply.NoWhile p) is = absurd is
refusing-spelled (reply.NoAbort b) is = absurd is
refusing-spelled reply.NoRoot is = tt
refusing-spelled reply.NoDeep is = tt
refusing-spelled reply.NoScript is = tt
refusing-spelled reply.NoExists is = tt
refusing-spelled reply.NoAbsent is = tt
refusing-spelled reply.NoMismatch is = tt
refusing-spelled reply.NoName is = tt
refusing-spelled reply.NoSpent is = tt
refusing-spelled reply.NoFull is = tt

no_of-spelled : (why : Refusal) → IsReply (no_of why)
no_of-spelled Root = tt
no_of-spelled Deep = tt
no_of-spelled Missing = tt
no_of-spelled Full = tt
no_of-spelled Name = tt

stop-spelled : (stop : Stop) → IsStopWritten stop → IsReply (stop_of stop)
stop-spelled (Abort b) is = is
stop-spelled Spent is = tt
stop-spelled (RefusedBy why) is = no_of-spelled why

-- a tree that keeps its limits, with low versions, and payloads and watches that have spellings
pub record IsPlain (m : ℕ) (T : Tree) : Type 0 where
  pub within : AllWithin m T
  pub fit : IsTrue (fits T)
  pub payloads : AllSpelled T
  pub paths : AllWritten T

shown-spelled : (m : ℕ) (T : Tree) (p : List NameText) (o : Option Node) → IsPlain m T → IsNumber (m + 1) → get T p ≡ o → IsReply (shown T p o)
shown-spelled m T p None plain small e = tt
shown-spelled m T p (Some n) plain small e =
    let w : IsWithin m n = plain.within p n e in
    (omega (arith, w.pv_high, small), omega (arith, w.cv_high, small), few_numbers (kids T p) (omega (arith, kids-le T p, few_nodes T plain.fit)), (plain.payloads p n e).payload)

-- a standing node of such a tree as it is listed
node-spelled : (m : ℕ) (T : Tree) → IsPlain m T → IsNumber (m + 1) → (e : List NameText × Node) → get T e.0 ≡ Some e.1 → IsShownNode (shown_node T e)
node-spelled m T plain small e at =
    let w : IsWithin m e.1 = plain.within e.0 e.1 at in
    record {
      path = plain.paths e.0 (ap is_some at);
      pv = omega (arith, w.pv_high, small);
      cv = omega (arith, w.cv_high, small);
      kids = few_numbers (kids T e.0) (omega (arith, kids-le T e.0, few_nodes T plain.fit));
      payload = (plain.payloads e.0 e.1 at).payload;
    }

matched-few : (m : ℕ) (T : Tree) (parts : List PatternPart) → IsPlain m T → IsNumber (length (matching parts T))
matched-few m T parts plain = few_numbers (length (matching parts T)) (omega (arith, few_matched parts T, few_nodes T plain.fit))

listed-spelled : (m : ℕ) (T : Tree) (parts : List PatternPart) (limit : ℕ) → IsPlain m T → IsNumber (m + 1) → IsReply (listed T parts limit)
listed-spelled m T parts limit plain small = (
  matched-few m T parts plain,
  All-map (λ (e : List NameText × Node). IsShownNode (shown_node T e)) IsShownNode (shown_node T) (λ e h. h) (take limit (matching_nodes parts T)) (each_matched (λ (e : List NameText × Node). IsShownNode (shown_node T e)) T parts limit (node-spelled m T plain small)),
)

gone-le : (T : Tree) → gone T ≤ len T
gone-le T = omega arith

legible : {m : ℕ} {T : Tree} → IsPlain m T → IsLegible T
legible plain = record { payloads = plain.payloads; paths = plain.paths }

-- what a command answers has a spelling
pub reply-spelled : (S : State) (c : Command) (m : ℕ) → IsCommand c → IsTree S.tree → IsPlain m S.tree → IsNumber (m + 1) → IsReply (exec_command S c).0
reply-spelled S c m is tree plain small = met (λ y. IsReply y.0) S c (record {
  refuses = refusing-spelled;
  breaks = λ p x w u may e. (unmet-spelled (set_watched S.tree p x w) p u (spelled-set_watched S.tree p x w (may is).1 (may is).2 plain.payloads) e).target;
  shows = λ p. shown-spelled m S.tree p (get S.tree p) plain small refl;
  lists = λ parts limit. listed-spelled m S.tree parts limit plain small;
  counts = λ parts. matched-few m S.tree parts plain;
  sets = λ p x w may place fit.
      let U = set_watched S.tree p x w in (
        omega (arith, pv-set_watched S.tree p x w, end-high m S.tree p x plain.within, small),
        few_numbers (gone U) (omega (arith, gone-le U, few_made S p x w tree place, few_nodes S.tree plain.fit)),
      );
  drops = λ paths apart fit.
      let U = drop S.tree paths in (
        few_numbers (len S.tree - len U) (omega (arith, few_nodes S.tree plain.fit)),
        few_numbers (gone U) (omega (arith, gone-le U, len-drop S.tree paths, few_nodes S.tree plain.fit)),
      );
  runs = λ args s r may e fit.
      let k = counted-script m s args [] S.tree r tree plain.within e in
      let left : IsNumber (gone r.scene.tree) = omega (arith, gone-le r.scene.tree, k.few, k.units, few_nodes S.tree plain.fit) in
      (left, (run_writes S c args s is may (legible plain) (Goes r) e).values);
  stops = λ args s r stop may e. stop-spelled stop (run_writes S c args s is may (legible plain) (Stops r stop) e);
  fails = λ args s r u may e un. (unmet_among-spelled r.scene.tree r.scene.written u (run_writes S c args s is may (legible plain) (Goes r) e).tree.payloads un).target;
})

tree_plain : (input : List (List ℕ)) (before : List OutLine) (l : ℕ) (S : State) (rest : List (List ℕ)) → Amid input before l S rest → IsPlain (1 + MAX_VERSION_RISE * S.position) S.tree
tree_plain input before l S rest a =
    let n : ℕ = length (history before) in
    let by : AllWithin (1 + MAX_VERSION_RISE * n) (run_from opening_state (history before)).tree = within-history (history before) in
    let at : AllWithin (1 + MAX_VERSION_RISE * n) S.tree = subst (λ (U : State). AllWithin (1 + MAX_VERSION_RISE * n) U.tree) a.state by in
    record {
      within = subst (λ (k : ℕ). AllWithin (1 + MAX_VERSION_RISE * k) S.tree) (sym a.position) at;
      fit = subst (λ (U : State). IsTrue (fits U.tree)) a.state (fits-history (history before));
      payloads = a.payloads;
      paths = a.paths;
    }

tree_is : (input : List (List ℕ)) (before : List OutLine) (l : ℕ) (S : State) (rest : List (List ℕ)) → Amid input before l S rest → IsTree S.tree
tree_is input before l S rest a = subst (λ (U : State). IsTree U.tree) a.state (tree-run (history before) opening_state tree-opening)

-- ---- the rules

spelled_kept : (input : List (List ℕ)) → length input ≤ MAX_INPUT_BYTES + 1 → IsKept input (λ before x after. HasSpelling x)
spelled_kept input small = record {
  refused = λ before l S bytes rest r at. omega (arith, small, number-within input before l S bytes rest at.amid);
  entry = λ before l S bytes rest k c at.
      let l_small : IsNumber l = omega (arith, small, number-within input before l S bytes rest at.amid) in
      let n_small : IsNumber (S.position + 1) = omega (arith, l_small, at.amid.few) in
      (n_small, l_small, at.spelled);
  reply = λ before l S bytes rest k c at.
      let within : l ≤ length input = number-within input before l S bytes rest at.amid in
      let l_small : IsNumber l = omega (arith, small, within) in
      let n_small : IsNumber (S.position + 1) = omega (arith, l_small, at.amid.few) in
      let v_small : IsNumber ((1 + MAX_VERSION_RISE * S.position) + 1) = omega (arith, small, within, at.amid.few) in
      (l_small, n_small, reply-spelled S c (1 + MAX_VERSION_RISE * S.position) at.spelled (tree_is input before l S (bytes ∷ rest) at.amid) (tree_plain input before l S (bytes ∷ rest) at.amid) v_small);
}

numbered_kept : (input : List (List ℕ)) → IsKept input (Numbered empty_opening)
numbered_kept input = record {
  refused = λ before l S bytes rest r at. tt;
  entry = λ before l S bytes rest k c at. omega (arith, at.amid.position);
  reply = λ before l S bytes rest k c at. tt;
}

command-here : (input : List (List ℕ)) (before : List OutLine) (l : ℕ) (S : State) (bytes : List ℕ) (rest : List (List ℕ)) (k : ℕ) (c : Command) → Amid input before l S (bytes ∷ rest)
    → line_at bytes ≡ Some (line.Command k c) → command_of input l ≡ Some c
command-here input before l S bytes rest k c a read = ap (λ (o : Option (List ℕ)). command_in (read_line o)) (input-here input before l S bytes rest a) ∙ ap command_in read

carried_kept : (input : List (List ℕ)) → IsKept input (Carried input)
carried_kept input = record {
  refused = λ before l S bytes rest r at. tt;
  entry = λ before l S bytes rest k c at. λ pos. record {
    command = (c, command-here input before l S bytes rest k c at.amid at.read, refl);
    not_before = entered-before l before at.amid.early;
    not_after = (λ e. omega arith, entered-after l (answers (l + 1) (exec_command S c).1 rest) pos (late rest (l + 1) (exec_command S c).1));
  };
  reply = λ before l S bytes rest k c at. tt;
}

explained_kept : (input : List (List ℕ)) → IsKept input (Explained empty_opening)
explained_kept input = record {
  refused = λ before l S bytes rest r at. tt;
  entry = λ before l S bytes rest k c at. λ z. absurd (omega (arith, z, at.amid.number));
  reply = λ before l S bytes rest k c at. tt;
}

answered_kept : (input : List (List ℕ)) → IsKept input (Answered empty_opening)
answered_kept input = record {
  refused = λ before l S bytes rest r at. tt;
  entry = λ before l S bytes rest k c at. ((exec_command S c).0, ap (λ (U : State). Some (exec_command U c).0) at.amid.state, refl);
  reply = λ before l S bytes rest k c at. record { front = before; entry = text.Command c; is = refl; answers = λ noop. noop };
}

awaited_kept : (input : List (List ℕ)) → IsKept input (Awaited empty_opening input)
awaited_kept input = record { refused = λ before l S bytes rest r at. tt; entry = λ before l S bytes rest k c at. tt; reply = λ before l S bytes rest k c at. tt }

lost_kept : (input : List (List ℕ)) → IsKept input (Lost empty_opening input)
lost_kept input = record { refused = λ before l S bytes rest r at. tt; entry = λ before l S bytes rest k c at. tt; reply = λ before l S bytes rest k c at. tt }

shown_kept : (input : List (List ℕ)) → IsKept input (Shown empty_opening input)
shown_kept input = record { refused = λ before l S bytes rest r at. tt; entry = λ before l S bytes rest k c at. tt; reply = λ before l S bytes rest k c at. tt }

refused_kept : (input : List (List ℕ)) → IsKept input (Refused input)
refused_kept input = record { refused = λ before l S bytes rest r at. at.may; entry = λ before l S bytes rest k c at. tt; reply = λ before l S bytes rest k c at. tt }

once_kept : (input : List (List ℕ)) → IsKept input Once
once_kept input = record {
  refused = λ before l S bytes rest r at. λ pos. settled-before l before at.amid.early;
  entry = λ before l S bytes rest k c at. λ pos. settled-before l before at.amid.early;
  reply = λ before l S bytes rest k c at. λ pos. absurd (omega arith);
}

rising_kept : (input : List (List ℕ)) → IsKept input Rising
rising_kept input = record {
  refused = λ before l S bytes rest r at. λ pos. inr at.amid.early;
  entry = λ before l S bytes rest k c at. λ pos. inr at.amid.early;
  reply = λ before l S bytes rest k c at. λ pos. inl (λ nowhere. All-at (λ (y : OutLine). named y ≡ l → ⊥) before (entry_line l S c) [] nowhere refl);
}

one_leader_kept : (input : List (List ℕ)) → IsKept input OneLeader
one_leader_kept input = record { refused = λ before l S bytes rest r at. tt; entry = λ before l S bytes rest k c at. tt; reply = λ before l S bytes rest k c at. tt }

-- ---- the whole

calm-is : (input : List (List ℕ)) → calm input ≡ out.Leads 1 1 ∷ answers 1 opening_state input
unfolding calm
calm-is input = refl

amid_opening : (input : List (List ℕ)) → Amid input (out.Leads 1 1 ∷ []) 1 opening_state input
amid_opening input = record { done = []; whole = refl; number = refl; state = refl; position = refl; few = omega arith; payloads = spelled-opening; paths = written-opening; early = (omega arith, tt) }

-- a rule that holds at the first line and is kept holds throughout
throughout : (input : List (List ℕ)) (R : List OutLine → OutLine → List OutLine → Type 0) → R [] (out.Leads 1 1) (answers 1 opening_state input) → IsKept input R → AtEach R [] (calm input)
throughout input R first rule = subst (AtEach R []) (sym (calm-is input)) (first, kept input R rule input (out.Leads 1 1 ∷ []) 1 opening_state (amid_opening input))

-- what a session of one node writes is legal
pub calm-legal : (input : List (List ℕ)) → length input ≤ MAX_INPUT_BYTES + 1 → Legal empty_opening input (calm input)
calm-legal input few = record {
  spelled = AtEach-all HasSpelling [] (calm input) (throughout input (λ before x after. HasSpelling x) ((omega arith, omega arith), omega arith) (spelled_kept input few));
  numbered = throughout input (Numbered empty_opening) tt (numbered_kept input);
  carried = throughout input (Carried input) tt (carried_kept input);
  explained = throughout input (Explained empty_opening) tt (explained_kept input);
  answered = throughout input (Answered empty_opening) tt (answered_kept input);
  awaited = throughout input (Awaited empty_opening input) tt (awaited_kept input);
  lost = throughout input (Lost empty_opening input) tt (lost_kept input);
  shown = throughout input (Shown empty_opening input) tt (shown_kept input);
  refused = throughout input (Refused input) tt (refused_kept input);
  once = throughout input Once (λ pos. absurd (omega arith)) (once_kept input);
  rising = throughout input Rising (λ pos. absurd (omega arith)) (rising_kept input);
  one_leader = throughout input OneLeader tt (one_leader_kept input);
}
