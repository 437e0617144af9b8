-- What is written of a command.
use Rattle.std.proofs.Common.{◌≡◌, ℕ, ◌+◌, List, [], ◌++◌, sym, ap, ◌∙◌, append_assoc}
use Rattle.std.proofs.lemmas.List.{append-nil}
use Rattle.khepri_types.specs.declared.command.Command.{Command}
use Rattle.khepri_types.specs.declared.reply.Reply.{Reply}
use Rattle.khepri_types.specs.declared.out.EntryText.TheVariants as text
use Rattle.khepri_types.specs.declared.out.OutLine.TheVariants as out
use Rattle.khepri_types.specs.Exec.{State, exec_command}
use Rattle.khepri_types.specs.Calm.{answer_command, with_lf, text_of}
use Rattle.khepri_types.proofs.After.{position-after}

-- the `#` line and the `=` line, where the machine answered and stands behind the command
pub text_of_command : (l n : ℕ) (S T : State) (c : Command) (r : Reply) (old mid new : List ℕ) → exec_command S c ≡ (r, T) → n ≡ T.position → mid ≡ old ++ with_lf (out.Entry n l (text.Command c)) → new ≡ mid ++ with_lf (out.Reply l n r)
    → new ≡ old ++ text_of (answer_command l S c).0
text_of_command l n S T c r old mid new does at first then =
    let place : n ≡ S.position + 1 = at ∙ (sym (ap (λ (y : Reply × State). y.1.position) does) ∙ position-after S c) in
    let answers : r ≡ (exec_command S c).0 = sym (ap (λ (y : Reply × State). y.0) does) in
    let a = with_lf (out.Entry (S.position + 1) l (text.Command c)) in
    let b = with_lf (out.Reply l (S.position + 1) (exec_command S c).0) in
    let ea : with_lf (out.Entry n l (text.Command c)) ≡ a = ap (λ (k : ℕ). with_lf (out.Entry k l (text.Command c))) place in
    let eb : with_lf (out.Reply l n r) ≡ b ++ [] = ap (λ (k : ℕ). with_lf (out.Reply l k r)) place ∙ (ap (λ (q : Reply). with_lf (out.Reply l (S.position + 1) q)) answers ∙ sym (append-nil b)) in
    then ∙ (ap (λ (x : List ℕ). x ++ with_lf (out.Reply l n r)) (first ∙ ap (λ (x : List ℕ). old ++ x) ea) ∙ (append_assoc old a (with_lf (out.Reply l n r)) ∙ ap (λ (x : List ℕ). old ++ (a ++ x)) eb))
