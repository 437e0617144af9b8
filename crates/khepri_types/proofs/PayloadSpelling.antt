-- What is read of payloads, and of what a command sets, is spelled so, and what is spelled so is read.
use Rattle.std.proofs.Common.{◌≡◌, ℕ, Bool, false, cond, List, [], ◌∷◌, ◌++◌, drop, refl, sym, ap, subst, ◌∙◌, append_assoc, Option, Some, None, codes}
use Rattle.std.specs.Cmp.Lexicographic.{same_text}
use Rattle.std.proofs.lemmas.List.{append-nil}
use Rattle.khepri_terms.specs.Terms.{NameText}
use Rattle.khepri_terms.specs.declared.rec.Field.{Field}
use Rattle.khepri_terms.specs.Bytes.{is_plain}
use Rattle.khepri_terms.specs.Paths.{path_text, path_at, IsPath}
use Rattle.khepri_terms.specs.Records.{rec_text, rec_at}
use Rattle.khepri_terms.specs.Many.{◌>>=◌}
use Rattle.khepri_terms.proofs.Cases.{bind_some, some_is}
use Rattle.khepri_terms.proofs.PathsLaws.{path_takes, path_again}
use Rattle.khepri_terms.proofs.RecordsLaws.{rec_takes, rec_again}
use Rattle.khepri_types.specs.declared.node.Payload.{Payload}
use Rattle.khepri_types.specs.declared.node.Payload.TheVariants.{Empty, Fields, Proc}
use Rattle.khepri_types.specs.declared.script.Statement.{Statement}
use Rattle.khepri_types.specs.declared.watch.Watching.{Watching}
use Rattle.khepri_types.specs.ReadingConditions.{after_byte}
use Rattle.khepri_types.specs.ReadingScripts.{script_at}
use Rattle.khepri_types.specs.ScriptTexts.{script_text, IsScript}
use Rattle.khepri_types.specs.Texts.{payload_text, watching_text, assigned_text}
use Rattle.khepri_types.specs.Spelled.{IsPayload, IsWatching}
use Rattle.khepri_types.specs.Reading.{begins, is_word, whole_record, whole_script, spelled_script, as_script, spelled_content, spelled_payload, whole_path, spelled_path, fields_at, proc_at, content_at, payload_at, spelled_watching, spelled_set, Assigned, spelled_assigned}
use Rattle.khepri_types.proofs.ScriptSpelling.{script_takes, script_again}
use Rattle.khepri_types.proofs.WatchSpelling.{spelled_watching-takes, spelled_watching-again}
use Rattle.khepri_types.proofs.Word.{if_read, word_takes, after_byte-takes}

-- ---- paths and payloads

whole_path_is : (o : Option (List NameText × List ℕ)) (p : List NameText) → whole_path o ≡ Some p → o ≡ Some (p, [])
whole_path_is None p e = absurd cc
whole_path_is (Some (q, [])) p e = ap (λ (r : List NameText). Some (r, [])) (some_is q p e)
whole_path_is (Some (q, b ∷ rest)) p e = absurd cc

pub spelled_path-takes : (text : List ℕ) (p : List NameText) → spelled_path text ≡ Some p → (text ≡ path_text p) × IsPath p
unfolding spelled_path
spelled_path-takes text p e =
    let t = path_takes text (p, []) (whole_path_is (path_at text) p e) in
    (t.0 ∙ append-nil (path_text p), t.1)

pub spelled_path-again : (p : List NameText) → IsPath p → spelled_path (path_text p) ≡ Some p
unfolding spelled_path
spelled_path-again p is = ap whole_path (ap path_at (sym (append-nil (path_text p))) ∙ path_again p [] is tt)

whole_record_is : (o : Option (List Field × List ℕ)) (x : Payload) → whole_record o ≡ Some x → (r : List Field) × (o ≡ Some (r, [])) × (Fields r ≡ x)
whole_record_is None x e = absurd cc
whole_record_is (Some (r, [])) x e = (r, refl, some_is (Fields r) x e)
whole_record_is (Some (r, b ∷ rest)) x e = absurd cc

whole_script_is : (o : Option (List Statement × List ℕ)) (s : List Statement) → whole_script o ≡ Some s → o ≡ Some (s, [])
whole_script_is None s e = absurd cc
whole_script_is (Some (t, [])) s e = ap (λ (u : List Statement). Some (u, [])) (some_is t s e)
whole_script_is (Some (t, b ∷ rest)) s e = absurd cc

pub spelled_script-takes : (text : List ℕ) (s : List Statement) → spelled_script text ≡ Some s → (text ≡ script_text s) × IsScript s
unfolding spelled_script
spelled_script-takes text s e =
    let t = script_takes text (s, []) (whole_script_is (script_at text) s e) in
    (t.0 ∙ append-nil (script_text s), t.1)

pub spelled_script-again : (s : List Statement) → IsScript s → spelled_script (script_text s) ≡ Some s
unfolding spelled_script
spelled_script-again s is = ap whole_script (ap script_at (sym (append-nil (script_text s))) ∙ script_again s [] is)

as_script_is : (o : Option (List Statement)) (x : Payload) → as_script o ≡ Some x → (s : List Statement) × (o ≡ Some s) × (Proc s ≡ x)
as_script_is None x e = absurd cc
as_script_is (Some s) x e = (s, refl, some_is (Proc s) x e)

-- the text is the spelling of this payload
abbrev SpellsPayload : List ℕ → Payload → Type 0
SpellsPayload text x = (text ≡ payload_text x) × IsPayload x

content_takes : (text : List ℕ) (x : Payload) → spelled_content text ≡ Some x → SpellsPayload text x
unfolding spelled_content payload_text
content_takes text x e =
    if_read {P = SpellsPayload text x} (begins (codes "<") text) (as_script (spelled_script text)) (whole_record (rec_at text)) x e
    (λ is h.
    let s = as_script_is (spelled_script text) x h in
    subst (SpellsPayload text) s.2 (spelled_script-takes text s.0 s.1))
    (λ h.
    let r = whole_record_is (rec_at text) x h in
    let t = rec_takes text (r.0, []) r.1 in
    subst (SpellsPayload text) r.2 (t.0 ∙ append-nil (rec_text r.0), t.1))

pub spelled_payload-takes : (text : List ℕ) (x : Payload) → spelled_payload text ≡ Some x → (text ≡ payload_text x) × IsPayload x
unfolding spelled_payload payload_text
spelled_payload-takes text x e =
    if_read {P = SpellsPayload text x} (is_word (codes "-") text) (Some Empty) (spelled_content text) x e
    (λ is h. subst (SpellsPayload text) (some_is Empty x h) (same_text text (codes "-") (sym is), tt))
    (λ h. content_takes text x h)

no_dash : (r : List Field) → is_word (codes "-") (rec_text r) ≡ false
unfolding rec_text
no_dash r = refl

record_content : (r : List Field) → spelled_content (rec_text r) ≡ whole_record (rec_at (rec_text r))
unfolding spelled_content rec_text
record_content r = refl

script_content : (s : List Statement) → spelled_payload (script_text s) ≡ as_script (spelled_script (script_text s))
unfolding spelled_payload spelled_content script_text
script_content s = refl

pub spelled_payload-again : (x : Payload) → IsPayload x → spelled_payload (payload_text x) ≡ Some x
unfolding spelled_payload payload_text
spelled_payload-again Empty is = refl
spelled_payload-again (Fields r) is =
    ap (λ (t : Bool). cond t (Some Empty) (spelled_content (rec_text r))) (no_dash r)
    ∙ (record_content r ∙ ap whole_record (ap rec_at (sym (append-nil (rec_text r))) ∙ rec_again r [] is))
spelled_payload-again (Proc s) is = script_content s ∙ ap as_script (spelled_script-again s is)

fields_at_is : (o : Option (List Field × List ℕ)) (x : Payload × List ℕ) → fields_at o ≡ Some x → (r : List Field × List ℕ) × (o ≡ Some r) × ((Fields r.0, r.1) ≡ x)
fields_at_is None x e = absurd cc
fields_at_is (Some r) x e = (r, refl, some_is (Fields r.0, r.1) x e)

proc_at_is : (o : Option (List Statement × List ℕ)) (x : Payload × List ℕ) → proc_at o ≡ Some x → (s : List Statement × List ℕ) × (o ≡ Some s) × ((Proc s.0, s.1) ≡ x)
proc_at_is None x e = absurd cc
proc_at_is (Some s) x e = (s, refl, some_is (Proc s.0, s.1) x e)

-- the text begins with this payload's spelling
abbrev BeginsPayload : List ℕ → Payload × List ℕ → Type 0
BeginsPayload text x = (text ≡ payload_text x.0 ++ x.1) × IsPayload x.0

content_begins : (text : List ℕ) (x : Payload × List ℕ) → content_at text ≡ Some x → BeginsPayload text x
unfolding content_at payload_text
content_begins text x e =
    if_read {P = BeginsPayload text x} (begins (codes "<") text) (proc_at (script_at text)) (fields_at (rec_at text)) x e
    (λ is h.
    let s = proc_at_is (script_at text) x h in
    let t = script_takes text s.0 s.1 in
    subst (BeginsPayload text) s.2 (t.0, t.1))
    (λ h.
    let r = fields_at_is (rec_at text) x h in
    let t = rec_takes text r.0 r.1 in
    subst (BeginsPayload text) r.2 (t.0, t.1))

-- the payload at the front
pub payload_takes : (text : List ℕ) (x : Payload × List ℕ) → payload_at text ≡ Some x → (text ≡ payload_text x.0 ++ x.1) × IsPayload x.0
unfolding payload_at payload_text
payload_takes text x e =
    if_read {P = BeginsPayload text x} (begins (codes "-") text) (Some (Empty, drop 1 text)) (content_at text) x e
    (λ is h. subst (BeginsPayload text) (some_is (Empty, drop 1 text) x h) (word_takes (codes "-") text is, tt))
    (λ h. content_begins text x h)

begins_no_dash : (r : List Field) (rest : List ℕ) → begins (codes "-") (rec_text r ++ rest) ≡ false
unfolding rec_text
begins_no_dash r rest = refl

record_begins : (r : List Field) (rest : List ℕ) → content_at (rec_text r ++ rest) ≡ fields_at (rec_at (rec_text r ++ rest))
unfolding content_at rec_text
record_begins r rest = refl

script_begins : (s : List Statement) (rest : List ℕ) → payload_at (script_text s ++ rest) ≡ proc_at (script_at (script_text s ++ rest))
unfolding payload_at content_at script_text
script_begins s rest = refl

pub payload_again : (x : Payload) (rest : List ℕ) → IsPayload x → payload_at (payload_text x ++ rest) ≡ Some (x, rest)
unfolding payload_at payload_text
payload_again Empty rest is = refl
payload_again (Fields r) rest is =
    ap (λ (t : Bool). cond t (Some (Empty, drop 1 (rec_text r ++ rest))) (content_at (rec_text r ++ rest))) (begins_no_dash r rest)
    ∙ (record_begins r rest ∙ ap fields_at (rec_again r rest is))
payload_again (Proc s) rest is = script_begins s rest ∙ ap proc_at (script_again s rest is)

-- ---- what a command sets

-- the text is a space, and the spelling of this payload and of what is said of watches
abbrev pub SpellsSet : List ℕ → Payload × Watching → Type 0
SpellsSet text s = (text ≡ 32 ∷ (payload_text s.0 ++ watching_text s.1)) × (IsPayload s.0 × IsWatching s.1)

pub set_takes : (text : List ℕ) (s : Payload × Watching) → spelled_set text ≡ Some s → SpellsSet text s
unfolding spelled_set
set_takes text s e =
    let t = bind_some (after_byte 32 text) (λ t. payload_at t >>= λ payload. spelled_watching payload.1 >>= λ w. Some (payload.0, w)) s e in
    let y = bind_some (payload_at t.0) (λ payload. spelled_watching payload.1 >>= λ w. Some (payload.0, w)) s t.2 in
    let w = bind_some (spelled_watching y.0.1) (λ w. Some (y.0.0, w)) s y.2 in
    let payload = payload_takes t.0 y.0 y.1 in
    let watch = spelled_watching-takes y.0.1 w.0 w.1 in
    subst (SpellsSet text) (some_is (y.0.0, w.0) s w.2)
    (after_byte-takes 32 text t.0 t.1 ∙ ap (λ (r : List ℕ). 32 ∷ r) (payload.0 ∙ ap (λ (r : List ℕ). payload_text y.0.0 ++ r) watch.0), (payload.1, watch.1))

pub set_again : (x : Payload) (w : Watching) → IsPayload x → IsWatching w → spelled_set (32 ∷ (payload_text x ++ watching_text w)) ≡ Some (x, w)
unfolding spelled_set after_byte
set_again x w is-payload is-watching =
    ap (λ (o : Option (Payload × List ℕ)). o >>= λ payload. spelled_watching payload.1 >>= λ v. Some (payload.0, v)) (payload_again x (watching_text w) is-payload)
    ∙ ap (λ (o : Option Watching). o >>= λ v. Some (x, v)) (spelled_watching-again w is-watching)

assigned_parts : (p : List NameText) (x : Payload) (w : Watching) → path_text p ++ 32 ∷ payload_text x ++ watching_text w ≡ path_text p ++ 32 ∷ (payload_text x ++ watching_text w)
assigned_parts p x w = append_assoc (path_text p) (32 ∷ payload_text x) (watching_text w)

-- the text is the spelling of what is set
abbrev pub SpellsAssigned : List ℕ → Assigned → Type 0
SpellsAssigned text a = (text ≡ assigned_text a.path a.payload a.watch) × (IsPath a.path × IsPayload a.payload × IsWatching a.watch)

pub spelled_assigned-takes : (text : List ℕ) (a : Assigned) → spelled_assigned text ≡ Some a → SpellsAssigned text a
unfolding spelled_assigned assigned_text
spelled_assigned-takes text a e =
    let p = bind_some (path_at text) (λ path. spelled_set path.1 >>= λ s. Some (record { path = path.0; payload = s.0; watch = s.1 })) a e in
    let s = bind_some (spelled_set p.0.1) (λ s. Some (record { path = p.0.0; payload = s.0; watch = s.1 })) a p.2 in
    let path = path_takes text p.0 p.1 in
    let set = set_takes p.0.1 s.0 s.1 in
    let whole : text ≡ path_text p.0.0 ++ 32 ∷ (payload_text s.0.0 ++ watching_text s.0.1) = path.0 ∙ ap (λ (r : List ℕ). path_text p.0.0 ++ r) set.0 in
    subst (SpellsAssigned text) (some_is (record { path = p.0.0; payload = s.0.0; watch = s.0.1 }) a s.2) (whole ∙ sym (assigned_parts p.0.0 s.0.0 s.0.1), (path.1, set.1.0, set.1.1))

behind_path : (p : List NameText) (text : List ℕ) → IsPath p → spelled_assigned (path_text p ++ 32 ∷ text) ≡ (spelled_set (32 ∷ text) >>= λ s. Some (record { path = p; payload = s.0; watch = s.1 }))
unfolding spelled_assigned is_plain
behind_path p text is = ap (λ (o : Option (List NameText × List ℕ)). o >>= λ path. spelled_set path.1 >>= λ s. Some (record { path = path.0; payload = s.0; watch = s.1 })) (path_again p (32 ∷ text) is refl)

pub spelled_assigned-again : (p : List NameText) (x : Payload) (w : Watching) → IsPath p → IsPayload x → IsWatching w → spelled_assigned (assigned_text p x w) ≡ Some (record { path = p; payload = x; watch = w })
unfolding assigned_text
spelled_assigned-again p x w is-path is-payload is-watching =
    ap spelled_assigned (assigned_parts p x w)
    ∙ (behind_path p (payload_text x ++ watching_text w) is-path
    ∙ ap (λ (o : Option (Payload × Watching)). o >>= λ s. Some (record { path = p; payload = s.0; watch = s.1 })) (set_again x w is-payload is-watching))
