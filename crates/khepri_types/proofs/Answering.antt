-- What the answer to one line is: one refusal, or an entry and its reply.
use Rattle.std.proofs.Common.{◌≡◌, ◌⊎◌, inl, inr, ℕ, ◌+◌, ◌<◌, ◌≤◌, Bool, cond, ltb, List, [], ◌∷◌, ◌++◌, length, refl, ap, ◌∙◌, Option, Some, None}
use Rattle.std.proofs.lemmas.Bool.{cases_lt, lt-ltb, le-ltb}
use Rattle.khepri_types.specs.declared.limits.TheConstants.{MAX_LINE_BYTES}
use Rattle.khepri_types.specs.declared.command.Command.{Command}
use Rattle.khepri_types.specs.declared.command.Line.{Line}
use Rattle.khepri_types.specs.declared.command.Line.TheVariants as line
use Rattle.khepri_types.specs.declared.out.EntryText.TheVariants as text
use Rattle.khepri_types.specs.declared.out.Reason.{Reason}
use Rattle.khepri_types.specs.declared.out.Reason.TheVariants.{TooLong, BadLine, NoNode}
use Rattle.khepri_types.specs.declared.out.OutLine.{OutLine}
use Rattle.khepri_types.specs.declared.out.OutLine.TheVariants as out
use Rattle.khepri_types.specs.Exec.{State, exec_command}
use Rattle.khepri_types.specs.Reading.{line_at}
use Rattle.khepri_types.specs.Legal.{input_line, read_line, MayRefuse}
use Rattle.khepri_types.specs.Calm.{answer_command, answer_line, answer, answers}

-- the line is refused
pub record IsRefusal (l : ℕ) (S : State) (bytes : List ℕ) (r : Reason) : Type 0 where
  pub lines : (answer l S bytes).0 ≡ out.Refused l r ∷ []
  pub state : (answer l S bytes).1 ≡ S
  pub may : (input : List (List ℕ)) → input_line input l ≡ Some bytes → MayRefuse input l r

-- the line is a command to the one node, which is entered and answered
pub record IsEntered (l : ℕ) (S : State) (bytes : List ℕ) (k : ℕ) (c : Command) : Type 0 where
  pub lines : (answer l S bytes).0 ≡ out.Entry (S.position + 1) l (text.Command c) ∷ out.Reply l (S.position + 1) (exec_command S c).0 ∷ []
  pub state : (answer l S bytes).1 ≡ (exec_command S c).1
  pub read : line_at bytes ≡ Some (line.Command k c)

abbrev pub IsAnswer : ℕ → State → List ℕ → Type 0
IsAnswer l S bytes = ((r : Reason) × IsRefusal l S bytes r) ⊎ ((k : ℕ) × (c : Command) × IsEntered l S bytes k c)

pub answer-long : (l : ℕ) (S : State) (bytes : List ℕ) → MAX_LINE_BYTES < length bytes → answer l S bytes ≡ (out.Refused l TooLong ∷ [], S)
unfolding answer
answer-long l S bytes lt = rw (lt-ltb MAX_LINE_BYTES (length bytes) lt) refl

pub answer-short : (l : ℕ) (S : State) (bytes : List ℕ) (read : Option Line) → length bytes ≤ MAX_LINE_BYTES → line_at bytes ≡ read → answer l S bytes ≡ answer_line l S read
unfolding answer
answer-short l S bytes read le e = rw (le-ltb MAX_LINE_BYTES (length bytes) le) (ap (answer_line l S) e)

pub answers-more : (l : ℕ) (S : State) (bytes : List ℕ) (rest : List (List ℕ)) → answers l S (bytes ∷ rest) ≡ (answer l S bytes).0 ++ answers (l + 1) (answer l S bytes).1 rest
unfolding answers
answers-more l S bytes rest = refl

pub answers-none : (l : ℕ) (S : State) → answers l S [] ≡ []
unfolding answers
answers-none l S = refl

abbrev Pair : Type 0
Pair = List OutLine × State

abbrev refusal : ℕ → State → Reason → Pair
refusal l S r = (out.Refused l r ∷ [], S)

is_answer : (l : ℕ) (S : State) (bytes : List ℕ) (read : Option Line) → length bytes ≤ MAX_LINE_BYTES → line_at bytes ≡ read → IsAnswer l S bytes
is_answer l S bytes None le e =
    let short = answer-short l S bytes None le e in
    inl (BadLine, record { lines = ap (λ (x : Pair). x.0) short; state = ap (λ (x : Pair). x.1) short; may = λ input is. (bytes, is, le, e) })
is_answer l S bytes (Some (line.Command k c)) le e =
    let short : answer l S bytes ≡ cond (ltb 1 k) (refusal l S NoNode) (answer_command l S c) = answer-short l S bytes (Some (line.Command k c)) le e in
    elim (cases_lt 1 k) as (λ _. IsAnswer l S bytes) [
      | inl more ↦
          let no : answer l S bytes ≡ refusal l S NoNode = short ∙ ap (λ (b : Bool). cond b (refusal l S NoNode) (answer_command l S c)) (lt-ltb 1 k more) in
          inl (NoNode, record { lines = ap (λ (x : Pair). x.0) no; state = ap (λ (x : Pair). x.1) no; may = λ input is. (line.Command k c, ap read_line is ∙ e, tt) })
      | inr one ↦
          let yes : answer l S bytes ≡ answer_command l S c = short ∙ ap (λ (b : Bool). cond b (refusal l S NoNode) (answer_command l S c)) (le-ltb 1 k one) in
          inr (k, c, record { lines = ap (λ (x : Pair). x.0) yes; state = ap (λ (x : Pair). x.1) yes; read = e })
    ]

-- each line has one of the two answers
pub answer-is : (l : ℕ) (S : State) (bytes : List ℕ) → IsAnswer l S bytes
answer-is l S bytes = elim (cases_lt MAX_LINE_BYTES (length bytes)) as (λ _. IsAnswer l S bytes) [
  | inl lt ↦
      let long = answer-long l S bytes lt in
      inl (TooLong, record { lines = ap (λ (x : Pair). x.0) long; state = ap (λ (x : Pair). x.1) long; may = λ input is. (bytes, is, lt) })
  | inr le ↦ is_answer l S bytes (line_at bytes) le refl
]

-- a refusal leaves the state
pub refused-same : (l : ℕ) (S : State) (bytes : List ℕ) (k : ℕ) (r : Reason) → (answer l S bytes).0 ≡ out.Refused k r ∷ [] → (answer l S bytes).1 ≡ S
refused-same l S bytes k r e = elim (answer-is l S bytes) as (λ _. (answer l S bytes).1 ≡ S) [
  | inl a ↦ a.1.state
  | inr a ↦ absurd (cc (e, a.2.lines))
]
