-- Amid a session: what was written and what is to come, and how a rule of legal output is kept.
use Rattle.std.proofs.Common.{◌≡◌, inl, inr, ℕ, suc, ◌+◌, ◌<◌, ◌≤◌, List, [], ◌∷◌, ◌++◌, length, refl, sym, ap, subst, ◌∙◌, arith, append_assoc, Some}
use Rattle.std.specs.List.{AllByRecursion}
use Rattle.std.proofs.lemmas.List.{append-nil, length-append}
use Rattle.khepri_types.specs.declared.command.Command.{Command}
use Rattle.khepri_types.specs.declared.command.Line.TheVariants as line
use Rattle.khepri_types.specs.declared.out.EntryText.{EntryText}
use Rattle.khepri_types.specs.declared.out.EntryText.TheVariants as text
use Rattle.khepri_types.specs.declared.out.Reason.{Reason}
use Rattle.khepri_types.specs.declared.out.OutLine.{OutLine}
use Rattle.khepri_types.specs.declared.out.OutLine.TheVariants as out
use Rattle.khepri_types.specs.Exec.{State, opening_state, exec_command}
use Rattle.khepri_types.specs.Spelled.{IsCommand}
use Rattle.khepri_types.specs.Reading.{line_at}
use Rattle.khepri_types.specs.History.{history, run_from}
use Rattle.khepri_types.specs.Legal.{named, input_line, AtEach, MayRefuse}
use Rattle.khepri_types.specs.Calm.{answer, answers}
use Rattle.khepri_types.proofs.Outputs.{All-append, All-weaker, NamesBelow, NamesFrom, history-append, run_from-append, slice_get-behind}
use Rattle.khepri_types.proofs.After.{position-after}
use Rattle.khepri_types.proofs.Spelling.{line_at-takes}
use Rattle.khepri_types.proofs.Legible.{IsLegible, legible-after}
use Rattle.khepri_types.proofs.Payloads.{AllSpelled}
use Rattle.khepri_types.proofs.PathsWritten.{AllWritten}
use Rattle.khepri_types.proofs.Answering.{answer-is, answers-more, answers-none}

-- these lines were written before line l is answered at state S, and these input lines are left
pub record Amid (input : List (List ℕ)) (before : List OutLine) (l : ℕ) (S : State) (rest : List (List ℕ)) : Type 0 where
  pub done : List (List ℕ)
  pub whole : input ≡ done ++ rest
  pub number : l ≡ suc (length done)
  pub state : run_from opening_state (history before) ≡ S
  pub position : S.position ≡ length (history before)
  pub few : S.position < l
  pub payloads : AllSpelled S.tree
  pub paths : AllWritten S.tree
  pub early : AllByRecursion (NamesBelow l) before

abbrev pub entry_line : ℕ → State → Command → OutLine
entry_line l S c = out.Entry (S.position + 1) l (text.Command c)

abbrev pub reply_line : ℕ → State → Command → OutLine
reply_line l S c = out.Reply l (S.position + 1) (exec_command S c).0

-- the next line of the input
pub input-here : (input : List (List ℕ)) (before : List OutLine) (l : ℕ) (S : State) (bytes : List ℕ) (rest : List (List ℕ)) → Amid input before l S (bytes ∷ rest)
    → input_line input l ≡ Some bytes
input-here input before l S bytes rest a =
    ap (λ (k : ℕ). input_line input k) a.number ∙ (ap (λ (all : List (List ℕ)). input_line all (suc (length a.done))) a.whole ∙ slice_get-behind a.done bytes rest)

-- it is one of them
pub number-within : (input : List (List ℕ)) (before : List OutLine) (l : ℕ) (S : State) (bytes : List ℕ) (rest : List (List ℕ)) → Amid input before l S (bytes ∷ rest)
    → l ≤ length input
number-within input before l S bytes rest a = omega (arith, a.number, ap length a.whole, length-append a.done (bytes ∷ rest))

names_more : (l : ℕ) (before : List OutLine) (x : OutLine) → AllByRecursion (NamesBelow l) before → named x ≡ l → AllByRecursion (NamesBelow (l + 1)) (before ++ x ∷ [])
names_more l before x early e = All-append (NamesBelow (l + 1)) before (x ∷ []) (All-weaker (NamesBelow l) (NamesBelow (l + 1)) (λ y lt. omega arith) before early) (omega arith, tt)

history-last : (before : List OutLine) (x : OutLine) (es : List EntryText) → history (x ∷ []) ≡ es → history (before ++ x ∷ []) ≡ history before ++ es
history-last before x es e = history-append before (x ∷ []) ∙ ap (λ (fs : List EntryText). history before ++ fs) e

-- a refusal is written
pub amid-refused : (input : List (List ℕ)) (before : List OutLine) (l : ℕ) (S : State) (bytes : List ℕ) (rest : List (List ℕ)) (r : Reason)
    → Amid input before l S (bytes ∷ rest) → Amid input (before ++ out.Refused l r ∷ []) (l + 1) S rest
amid-refused input before l S bytes rest r a =
    let same : history (before ++ out.Refused l r ∷ []) ≡ history before = history-last before (out.Refused l r) [] refl ∙ append-nil (history before) in
    record {
      done = a.done ++ bytes ∷ [];
      whole = a.whole ∙ sym (append_assoc a.done (bytes ∷ []) rest);
      number = omega (arith, a.number, length-append a.done (bytes ∷ []));
      state = ap (run_from opening_state) same ∙ a.state;
      position = a.position ∙ ap length (sym same);
      few = omega (arith, a.few);
      payloads = a.payloads;
      paths = a.paths;
      early = names_more l before (out.Refused l r) a.early refl;
    }

-- an entry and its reply are written
pub amid-entered : (input : List (List ℕ)) (before : List OutLine) (l : ℕ) (S : State) (bytes : List ℕ) (rest : List (List ℕ)) (c : Command)
    → IsCommand c → Amid input before l S (bytes ∷ rest) → Amid input ((before ++ entry_line l S c ∷ []) ++ reply_line l S c ∷ []) (l + 1) (exec_command S c).1 rest
amid-entered input before l S bytes rest c is a =
    let one = before ++ entry_line l S c ∷ [] in
    let two = one ++ reply_line l S c ∷ [] in
    let told : history two ≡ history before ++ text.Command c ∷ [] =
    history-last one (reply_line l S c) [] refl ∙ (append-nil (history one) ∙ history-last before (entry_line l S c) (text.Command c ∷ []) refl) in
    let first : AllByRecursion (NamesBelow (l + 1)) one = names_more l before (entry_line l S c) a.early refl in
    record {
      done = a.done ++ bytes ∷ [];
      whole = a.whole ∙ sym (append_assoc a.done (bytes ∷ []) rest);
      number = omega (arith, a.number, length-append a.done (bytes ∷ []));
      state = ap (run_from opening_state) told ∙ (run_from-append (history before) (text.Command c ∷ []) opening_state ∙ ap (λ (U : State). (exec_command U c).1) a.state);
      position = omega (arith, position-after S c, a.position, ap length told, length-append (history before) (text.Command c ∷ []));
      few = omega (arith, position-after S c, a.few);
      payloads = (legible-after S c is (record { payloads = a.payloads; paths = a.paths })).payloads;
      paths = (legible-after S c is (record { payloads = a.payloads; paths = a.paths })).paths;
      early = All-append (NamesBelow (l + 1)) one (reply_line l S c ∷ []) first (omega arith, tt);
    }

-- ---- the lines to come

abbrev Goes : ℕ → List OutLine → Type 0
Goes l lines = AllByRecursion (NamesFrom l) lines

pub late : (rest : List (List ℕ)) (l : ℕ) (S : State) → AllByRecursion (NamesFrom l) (answers l S rest)
late [] l S = subst (Goes l) (sym (answers-none l S)) tt
late (bytes ∷ rest) l S =
    let later : Goes l (answers (l + 1) (answer l S bytes).1 rest) = All-weaker (NamesFrom (l + 1)) (NamesFrom l) (λ y le. omega arith) (answers (l + 1) (answer l S bytes).1 rest) (late rest (l + 1) (answer l S bytes).1) in
    let now : Goes l (answer l S bytes).0 = elim (answer-is l S bytes) as (λ _. Goes l (answer l S bytes).0) [
      | inl a ↦ subst (Goes l) (sym a.1.lines) (omega arith, tt)
      | inr a ↦ subst (Goes l) (sym a.2.lines) (omega arith, (omega arith, tt))
    ] in
    subst (Goes l) (sym (answers-more l S bytes rest)) (All-append (NamesFrom l) (answer l S bytes).0 (answers (l + 1) (answer l S bytes).1 rest) now later)

-- ---- a rule

-- line l is refused here
pub record AtRefusal (input : List (List ℕ)) (before : List OutLine) (l : ℕ) (S : State) (bytes : List ℕ) (rest : List (List ℕ)) (r : Reason) : Type 0 where
  pub amid : Amid input before l S (bytes ∷ rest)
  pub may : MayRefuse input l r

-- line l is entered here
pub record AtEntry (input : List (List ℕ)) (before : List OutLine) (l : ℕ) (S : State) (bytes : List ℕ) (rest : List (List ℕ)) (k : ℕ) (c : Command) : Type 0 where
  pub amid : Amid input before l S (bytes ∷ rest)
  pub read : line_at bytes ≡ Some (line.Command k c)
  pub spelled : IsCommand c

-- a rule holds at each kind of line that a session writes for an input line
pub record IsKept (input : List (List ℕ)) (R : List OutLine → OutLine → List OutLine → Type 0) : Type 0 where
  pub refused : (before : List OutLine) (l : ℕ) (S : State) (bytes : List ℕ) (rest : List (List ℕ)) (r : Reason) → AtRefusal input before l S bytes rest r
      → R before (out.Refused l r) (answers (l + 1) S rest)
  pub entry : (before : List OutLine) (l : ℕ) (S : State) (bytes : List ℕ) (rest : List (List ℕ)) (k : ℕ) (c : Command) → AtEntry input before l S bytes rest k c
      → R before (entry_line l S c) (reply_line l S c ∷ answers (l + 1) (exec_command S c).1 rest)
  pub reply : (before : List OutLine) (l : ℕ) (S : State) (bytes : List ℕ) (rest : List (List ℕ)) (k : ℕ) (c : Command) → AtEntry input before l S bytes rest k c
      → R (before ++ entry_line l S c ∷ []) (reply_line l S c) (answers (l + 1) (exec_command S c).1 rest)

-- then it holds at each line
pub kept : (input : List (List ℕ)) (R : List OutLine → OutLine → List OutLine → Type 0) → IsKept input R
    → (rest : List (List ℕ)) (before : List OutLine) (l : ℕ) (S : State) → Amid input before l S rest → AtEach R before (answers l S rest)
kept input R rule [] before l S a = subst (AtEach R before) (sym (answers-none l S)) tt
kept input R rule (bytes ∷ rest) before l S a =
    let more = answers (l + 1) (answer l S bytes).1 rest in
    subst (AtEach R before) (sym (answers-more l S bytes rest)) (elim (answer-is l S bytes) as (λ _. AtEach R before ((answer l S bytes).0 ++ answers (l + 1) (answer l S bytes).1 rest)) [
      | inl f ↦
          let r = f.0 in
          let is = f.1 in
          let lines : (answer l S bytes).0 ++ answers (l + 1) (answer l S bytes).1 rest ≡ out.Refused l r ∷ answers (l + 1) S rest =
          ap (λ (x : List OutLine). x ++ answers (l + 1) (answer l S bytes).1 rest) is.lines ∙ ap (λ (U : State). out.Refused l r ∷ answers (l + 1) U rest) is.state in
          let at : AtRefusal input before l S bytes rest r = record { amid = a; may = is.may input (input-here input before l S bytes rest a) } in
          subst (AtEach R before) (sym lines) (
            rule.refused before l S bytes rest r at,
            kept input R rule rest (before ++ out.Refused l r ∷ []) (l + 1) S (amid-refused input before l S bytes rest r a),
          )
      | inr f ↦
          let k = f.0 in
          let c = f.1 in
          let is = f.2 in
          let spelled : IsCommand c = (line_at-takes bytes (line.Command k c) is.read).1.1 in
          let next = (exec_command S c).1 in
          let lines : (answer l S bytes).0 ++ answers (l + 1) (answer l S bytes).1 rest ≡ entry_line l S c ∷ reply_line l S c ∷ answers (l + 1) (exec_command S c).1 rest =
          ap (λ (x : List OutLine). x ++ answers (l + 1) (answer l S bytes).1 rest) is.lines ∙ ap (λ (U : State). entry_line l S c ∷ reply_line l S c ∷ answers (l + 1) U rest) is.state in
          let at : AtEntry input before l S bytes rest k c = record { amid = a; read = is.read; spelled = spelled } in
          subst (AtEach R before) (sym lines) (
            rule.entry before l S bytes rest k c at,
            (
              rule.reply before l S bytes rest k c at,
              kept input R rule rest ((before ++ entry_line l S c ∷ []) ++ reply_line l S c ∷ []) (l + 1) next (amid-entered input before l S bytes rest c spelled a),
            ),
          )
    ])
