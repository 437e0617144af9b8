-- What is read of commands that run scripts is spelled so, and what is spelled so is read.
use Rattle.std.proofs.Common.{◌≡◌, ℕ, List, [], ◌∷◌, ◌++◌, drop, refl, sym, ap, subst, ◌∙◌, Option, Some, None, codes}
use Rattle.std.proofs.lemmas.List.{append-nil}
use Rattle.khepri_terms.specs.Terms.{NameText}
use Rattle.khepri_terms.specs.declared.rec.Field.{Field}
use Rattle.khepri_terms.specs.Bytes.{is_plain}
use Rattle.khepri_terms.specs.Many.{◌>>=◌}
use Rattle.khepri_terms.specs.Paths.{path_text, path_at, IsPath}
use Rattle.khepri_terms.specs.Records.{rec_text, rec_at, IsRec}
use Rattle.khepri_terms.proofs.Cases.{bind_some, some_is}
use Rattle.khepri_terms.proofs.PathsLaws.{path_takes, path_again}
use Rattle.khepri_terms.proofs.RecordsLaws.{rec_takes, rec_again}
use Rattle.khepri_types.specs.declared.command.Command.{Command}
use Rattle.khepri_types.specs.declared.command.Command.TheVariants.{Tx, Run}
use Rattle.khepri_types.specs.declared.script.Statement.{Statement}
use Rattle.khepri_types.specs.Reading.{begins, whole_fields, spelled_script, spelled_tx, args_behind, spelled_run, running}
use Rattle.khepri_types.specs.ReadingConditions.{after_byte}
use Rattle.khepri_types.specs.ScriptTexts.{script_text, IsScript}
use Rattle.khepri_types.specs.Spelled.{IsCommand}
use Rattle.khepri_types.specs.Texts.{command_text}
use Rattle.khepri_types.proofs.AskedSpelling.{SpellsCommand}
use Rattle.khepri_types.proofs.PayloadSpelling.{spelled_script-takes, spelled_script-again}
use Rattle.khepri_types.proofs.Word.{if_read, word_takes, after_byte-takes}

-- ---- tx

tx_takes : (text : List ℕ) (c : Command) → spelled_tx text ≡ Some c → SpellsCommand (codes "tx " ++ text) c
unfolding spelled_tx command_text
tx_takes text c e =
    let a = bind_some (rec_at text) (λ args. after_byte 32 args.1 >>= λ t. spelled_script t >>= λ s. Some (Tx args.0 s)) c e in
    let b = bind_some (after_byte 32 a.0.1) (λ t. spelled_script t >>= λ s. Some (Tx a.0.0 s)) c a.2 in
    let d = bind_some (spelled_script b.0) (λ s. Some (Tx a.0.0 s)) c b.2 in
    let args = rec_takes text a.0 a.1 in
    let s = spelled_script-takes b.0 d.0 d.1 in
    let whole : text ≡ rec_text a.0.0 ++ 32 ∷ script_text d.0 = args.0 ∙ ap (λ (r : List ℕ). rec_text a.0.0 ++ r) (after_byte-takes 32 a.0.1 b.0 b.1 ∙ ap (λ (r : List ℕ). 32 ∷ r) s.0) in
    subst (SpellsCommand (codes "tx " ++ text)) (some_is (Tx a.0.0 d.0) c d.2) (ap (λ (r : List ℕ). codes "tx " ++ r) whole, (args.1, s.1))

pub tx_again : (args : List Field) (s : List Statement) → IsRec args → IsScript s → spelled_tx (rec_text args ++ 32 ∷ script_text s) ≡ Some (Tx args s)
unfolding spelled_tx after_byte
tx_again args s is-args is-s =
    ap (λ (o : Option (List Field × List ℕ)). o >>= λ args. after_byte 32 args.1 >>= λ t. spelled_script t >>= λ s. Some (Tx args.0 s)) (rec_again args (32 ∷ script_text s) is-args)
    ∙ ap (λ (o : Option (List Statement)). o >>= λ s. Some (Tx args s)) (spelled_script-again s is-s)

-- ---- run

whole_fields_is : (o : Option (List Field × List ℕ)) (f : List Field) → whole_fields o ≡ Some f → o ≡ Some (f, [])
whole_fields_is None f e = absurd cc
whole_fields_is (Some (g, [])) f e = ap (λ (r : List Field). Some (r, [])) (some_is g f e)
whole_fields_is (Some (g, b ∷ rest)) f e = absurd cc

args_takes : (text : List ℕ) (f : List Field) → args_behind text ≡ Some f → (text ≡ 32 ∷ rec_text f) × IsRec f
unfolding args_behind
args_takes text f e =
    let a = bind_some (after_byte 32 text) (λ t. whole_fields (rec_at t)) f e in
    let t = rec_takes a.0 (f, []) (whole_fields_is (rec_at a.0) f a.2) in
    (after_byte-takes 32 text a.0 a.1 ∙ ap (λ (r : List ℕ). 32 ∷ r) (t.0 ∙ append-nil (rec_text f)), t.1)

args_again : (f : List Field) → IsRec f → args_behind (32 ∷ rec_text f) ≡ Some f
unfolding args_behind after_byte
args_again f is = ap whole_fields (ap rec_at (sym (append-nil (rec_text f))) ∙ rec_again f [] is)

run_takes : (text : List ℕ) (c : Command) → spelled_run text ≡ Some c → SpellsCommand (codes "run " ++ text) c
unfolding spelled_run command_text
run_takes text c e =
    let a = bind_some (path_at text) (λ path. args_behind path.1 >>= λ f. Some (Run path.0 f)) c e in
    let d = bind_some (args_behind a.0.1) (λ f. Some (Run a.0.0 f)) c a.2 in
    let p = path_takes text a.0 a.1 in
    let f = args_takes a.0.1 d.0 d.1 in
    subst (SpellsCommand (codes "run " ++ text)) (some_is (Run a.0.0 d.0) c d.2)
    (ap (λ (t : List ℕ). codes "run " ++ t) (p.0 ∙ ap (λ (t : List ℕ). path_text a.0.0 ++ t) f.0), (p.1, f.1))

pub run_again : (p : List NameText) (args : List Field) → IsPath p → IsRec args → spelled_run (path_text p ++ 32 ∷ rec_text args) ≡ Some (Run p args)
unfolding spelled_run is_plain
run_again p args is-path is-args =
    ap (λ (o : Option (List NameText × List ℕ)). o >>= λ path. args_behind path.1 >>= λ f. Some (Run path.0 f)) (path_again p (32 ∷ rec_text args) is-path refl)
    ∙ ap (λ (o : Option (List Field)). o >>= λ f. Some (Run p f)) (args_again args is-args)

-- ---- both

pub running_takes : (text : List ℕ) (c : Command) → running text ≡ Some c → SpellsCommand text c
unfolding running
running_takes text c e =
    if_read {P = SpellsCommand text c} (begins (codes "tx ") text) (spelled_tx (drop 3 text)) _ c e (λ is h. let t = tx_takes (drop 3 text) c h in (word_takes (codes "tx ") text is ∙ t.0, t.1))
    (λ e. if_read {P = SpellsCommand text c} (begins (codes "run ") text) (spelled_run (drop 4 text)) None c e (λ is h. let t = run_takes (drop 4 text) c h in (word_takes (codes "run ") text is ∙ t.0, t.1))
    (λ e. absurd cc))
