-- What is read of replies and output lines is spelled so, and what is spelled so is read.
use Rattle.std.proofs.Common.{◌≡◌, ℕ, ◌+◌, ◌-◌, ◌≤◌, Bool, true, false, cond, eqb, leb, ◌&&◌, List, [], ◌∷◌, ◌++◌, drop, refl, sym, ap, subst, ◌∙◌, append_assoc, arith, Option, Some, None, codes, decimal}
use Rattle.std.specs.Cmp.Lexicographic.{same_text}
use Rattle.std.proofs.lemmas.Bool.{eqb-true, le-leb}
use Rattle.std.proofs.lemmas.Fmt.{decimal_digit}
use Rattle.khepri_terms.specs.Terms.{NameText}
use Rattle.khepri_terms.specs.Paths.{IsPath, path_text}
use Rattle.khepri_terms.specs.Many.{◌>>=◌}
use Rattle.khepri_terms.proofs.Cases.{bind_some, guard_some, some_is, and_true}
use Rattle.khepri_types.specs.declared.node.Payload.{Payload}
use Rattle.khepri_types.specs.declared.command.Command.{Command}
use Rattle.khepri_types.specs.declared.command.Command.TheVariants.{Put, Create, Update, Cas, Clear, Del, Delmany, Get, Many, Count, Tx, Run}
use Rattle.khepri_types.specs.declared.reply.Reply.{Reply}
use Rattle.khepri_types.specs.declared.reply.Reply.TheVariants as reply
use Rattle.khepri_types.specs.declared.out.EntryText.{EntryText}
use Rattle.khepri_types.specs.declared.out.EntryText.TheVariants as entry
use Rattle.khepri_types.specs.declared.out.Reason.{Reason}
use Rattle.khepri_types.specs.declared.out.Reason.TheVariants.{TooLong, BadLine, NoNode, Running, Stopped, NotLeader, LogFull, Backlog, NoSlot}
use Rattle.khepri_types.specs.declared.out.StopWord.{StopWord}
use Rattle.khepri_types.specs.declared.out.StopWord.TheVariants.{Order, Vault, Memory, Bad}
use Rattle.khepri_types.specs.declared.out.Rows.{Rows}
use Rattle.khepri_types.specs.declared.out.Rows.TheVariants.{Absent}
use Rattle.khepri_types.specs.declared.out.OutLine.{OutLine}
use Rattle.khepri_types.specs.declared.out.OutLine.TheVariants as out
use Rattle.khepri_types.specs.Texts.{payload_text, command_text, reply_text, entry_text, reason_text, stop_text, rows_text, out_text}
use Rattle.khepri_types.specs.Spelled.{IsNumber, IsNode, IsPayload, IsCommand, IsReply, IsEntryText, HasSpelling}
use Rattle.khepri_types.specs.Reading.{begins, is_word, spelled_payload, spelled_path, spelled_command}
use Rattle.khepri_types.specs.ReadingNumbers.{number_before, three_before, spelled_number}
use Rattle.khepri_types.specs.ReadingOut.{changed_at, node_at, nodes_at, count_at, done_at, abort_no, script_no, while_no, spelled_no, spelled_reply, command_entry, fire_entry, older_entry, spelled_entry, spelled_reason, spelled_stop, spelled_rows, entry_line, reply_line, refused_line, end_line, pending_line, rows_line, leads_line, follows_line, stopped_line, node_news, node_line, out_at}
use Rattle.khepri_types.proofs.Word.{if_read, word_takes}
use Rattle.khepri_types.proofs.NumberSpelling.{joined, before_takes, space_again, at_again, three_takes, three_again, spelled_number-takes, spelled_number-again}
use Rattle.khepri_types.proofs.ListSpelling.{SpellsReply, nodes_takes, nodes_again}
use Rattle.khepri_types.proofs.ValueSpelling.{done_takes, done_again, abort_takes, abort_again}
use Rattle.khepri_types.proofs.Spelling.{spelled_payload-takes, spelled_payload-again, spelled_path-takes, spelled_path-again, spelled_command-takes, spelled_command-again, digit_is}

-- a text that is this word
word_is : {A : Type 0} (Is : List ℕ → A → Type 0) (a x : A) (word text : List ℕ) → Is word a → is_word word text ≡ true → Some a ≡ Some x → Is text x
word_is {A = A} Is a x word text base is e = subst (λ (y : A). Is text y) (some_is a x e) (subst (λ (t : List ℕ). Is t a) (sym (same_text text word (sym is))) base)

both_cases : {A : Type 0} (t : Bool) (a b x : A) → a ≡ x → b ≡ x → cond t a b ≡ x
both_cases true a b x e f = e
both_cases false a b x e f = f

-- ---- replies

changed_takes : (text : List ℕ) (x : Reply) → changed_at text ≡ Some x → SpellsReply (codes "ok " ++ text) x
unfolding changed_at reply_text
changed_takes text x e =
    let a = bind_some (number_before (codes " ") text) (λ n. spelled_number n.1 >>= λ k. Some (reply.Changed n.0 k)) x e in
    let b = bind_some (spelled_number a.0.1) (λ k. Some (reply.Changed a.0.0 k)) x a.2 in
    let n = before_takes (codes " ") text a.0 a.1 in
    let k = spelled_number-takes a.0.1 b.0 b.1 in
    subst (SpellsReply (codes "ok " ++ text)) (some_is (reply.Changed a.0.0 b.0) x b.2)
    (ap (λ (t : List ℕ). codes "ok " ++ t) (n.0 ∙ ap (λ (t : List ℕ). decimal a.0.0 ++ 32 ∷ t) k.0), (n.1, k.1))

changed_again : (n k : ℕ) → IsNumber n → IsNumber k → changed_at (decimal n ++ 32 ∷ decimal k) ≡ Some (reply.Changed n k)
unfolding changed_at
changed_again n k is-n is-k =
    ap (λ (o : Option (ℕ × List ℕ)). o >>= λ x. spelled_number x.1 >>= λ j. Some (reply.Changed x.0 j)) (space_again n (decimal k) is-n)
    ∙ ap (λ (o : Option ℕ). o >>= λ j. Some (reply.Changed n j)) (spelled_number-again k is-k)

node_takes : (text : List ℕ) (x : Reply) → node_at text ≡ Some x → SpellsReply (codes "node " ++ text) x
unfolding node_at reply_text
node_takes text x e =
    let a = bind_some (three_before text) (λ numbers. spelled_payload numbers.3 >>= λ payload. Some (reply.Node numbers.0 numbers.1 numbers.2 payload)) x e in
    let d = bind_some (spelled_payload a.0.3) (λ payload. Some (reply.Node a.0.0 a.0.1 a.0.2 payload)) x a.2 in
    let numbers = three_takes text a.0 a.1 in
    let payload = spelled_payload-takes a.0.3 d.0 d.1 in
    let whole : text ≡ decimal a.0.0 ++ 32 ∷ decimal a.0.1 ++ 32 ∷ decimal a.0.2 ++ 32 ∷ payload_text d.0 =
    numbers.0
    ∙ (ap (λ (t : List ℕ). decimal a.0.0 ++ 32 ∷ (decimal a.0.1 ++ 32 ∷ (decimal a.0.2 ++ 32 ∷ t))) payload.0
    ∙ sym (joined (decimal a.0.0) (32 ∷ decimal a.0.1) (32 ∷ decimal a.0.2) (32 ∷ payload_text d.0))) in
    subst (SpellsReply (codes "node " ++ text)) (some_is (reply.Node a.0.0 a.0.1 a.0.2 d.0) x d.2)
    (ap (λ (t : List ℕ). codes "node " ++ t) whole, (numbers.1.0, numbers.1.1, numbers.1.2, payload.1))

node_again : (pv cv kids : ℕ) (x : Payload) → IsNumber pv → IsNumber cv → IsNumber kids → IsPayload x → node_at (decimal pv ++ 32 ∷ decimal cv ++ 32 ∷ decimal kids ++ 32 ∷ payload_text x) ≡ Some (reply.Node pv cv kids x)
unfolding node_at
node_again pv cv kids x is-pv is-cv is-kids is-x =
    ap node_at (joined (decimal pv) (32 ∷ decimal cv) (32 ∷ decimal kids) (32 ∷ payload_text x))
    ∙ (ap (λ (o : Option (ℕ × ℕ × ℕ × List ℕ)). o >>= λ n. spelled_payload n.3 >>= λ d. Some (reply.Node n.0 n.1 n.2 d)) (three_again pv cv kids (payload_text x) is-pv is-cv is-kids)
    ∙ ap (λ (o : Option Payload). o >>= λ d. Some (reply.Node pv cv kids d)) (spelled_payload-again x is-x))

count_takes : (text : List ℕ) (x : Reply) → count_at text ≡ Some x → SpellsReply (codes "count " ++ text) x
unfolding count_at reply_text
count_takes text x e =
    let a = bind_some (spelled_number text) (λ n. Some (reply.Count n)) x e in
    let n = spelled_number-takes text a.0 a.1 in
    subst (SpellsReply (codes "count " ++ text)) (some_is (reply.Count a.0) x a.2) (ap (λ (t : List ℕ). codes "count " ++ t) n.0, n.1)

count_again : (n : ℕ) → IsNumber n → count_at (decimal n) ≡ Some (reply.Count n)
unfolding count_at
count_again n is = ap (λ (o : Option ℕ). o >>= λ m. Some (reply.Count m)) (spelled_number-again n is)

while_takes : (text : List ℕ) (x : Reply) → while_no text ≡ Some x → SpellsReply (codes "no while " ++ text) x
unfolding while_no reply_text
while_takes text x e =
    let a = bind_some (spelled_path text) (λ p. Some (reply.NoWhile p)) x e in
    let t = spelled_path-takes text a.0 a.1 in
    subst (SpellsReply (codes "no while " ++ text)) (some_is (reply.NoWhile a.0) x a.2) (ap (λ (r : List ℕ). codes "no while " ++ r) t.0, t.1)

while_again : (p : List NameText) → IsPath p → while_no (path_text p) ≡ Some (reply.NoWhile p)
unfolding while_no
while_again p is = ap (λ (o : Option (List NameText)). o >>= λ q. Some (reply.NoWhile q)) (spelled_path-again p is)

script_no-takes : (text : List ℕ) (x : Reply) → script_no text ≡ Some x → SpellsReply text x
unfolding script_no reply_text
script_no-takes text x e =
    if_read {P = SpellsReply text x} (is_word (codes "no script") text) (Some reply.NoScript) _ x e (word_is SpellsReply reply.NoScript x (codes "no script") text (refl, tt))
    (λ e. if_read {P = SpellsReply text x} (is_word (codes "no name") text) (Some reply.NoName) _ x e (word_is SpellsReply reply.NoName x (codes "no name") text (refl, tt))
    (λ e. if_read {P = SpellsReply text x} (is_word (codes "no spent") text) (Some reply.NoSpent) _ x e (word_is SpellsReply reply.NoSpent x (codes "no spent") text (refl, tt))
    (λ e. if_read {P = SpellsReply text x} (begins (codes "no abort ") text) (abort_no (drop 9 text)) None x e (λ is h. let t = abort_takes (drop 9 text) x h in (word_takes (codes "no abort ") text is ∙ t.0, t.1))
    (λ e. absurd cc))))

no_takes : (text : List ℕ) (x : Reply) → spelled_no text ≡ Some x → SpellsReply text x
unfolding spelled_no reply_text
no_takes text x e =
    if_read {P = SpellsReply text x} (is_word (codes "no root") text) (Some reply.NoRoot) _ x e (word_is SpellsReply reply.NoRoot x (codes "no root") text (refl, tt))
    (λ e. if_read {P = SpellsReply text x} (is_word (codes "no deep") text) (Some reply.NoDeep) _ x e (word_is SpellsReply reply.NoDeep x (codes "no deep") text (refl, tt))
    (λ e. if_read {P = SpellsReply text x} (is_word (codes "no exists") text) (Some reply.NoExists) _ x e (word_is SpellsReply reply.NoExists x (codes "no exists") text (refl, tt))
    (λ e. if_read {P = SpellsReply text x} (is_word (codes "no absent") text) (Some reply.NoAbsent) _ x e (word_is SpellsReply reply.NoAbsent x (codes "no absent") text (refl, tt))
    (λ e. if_read {P = SpellsReply text x} (is_word (codes "no mismatch") text) (Some reply.NoMismatch) _ x e (word_is SpellsReply reply.NoMismatch x (codes "no mismatch") text (refl, tt))
    (λ e. if_read {P = SpellsReply text x} (is_word (codes "no full") text) (Some reply.NoFull) _ x e (word_is SpellsReply reply.NoFull x (codes "no full") text (refl, tt))
    (λ e. if_read {P = SpellsReply text x} (begins (codes "no while ") text) (while_no (drop 9 text)) _ x e (λ is h. let t = while_takes (drop 9 text) x h in (word_takes (codes "no while ") text is ∙ t.0, t.1))
    (λ e. script_no-takes text x e)))))))

pub spelled_reply-takes : (text : List ℕ) (x : Reply) → spelled_reply text ≡ Some x → SpellsReply text x
unfolding spelled_reply
spelled_reply-takes text x e =
    if_read {P = SpellsReply text x} (begins (codes "ok ") text) (changed_at (drop 3 text)) _ x e (λ is h. let t = changed_takes (drop 3 text) x h in (word_takes (codes "ok ") text is ∙ t.0, t.1))
    (λ e. if_read {P = SpellsReply text x} (begins (codes "node ") text) (node_at (drop 5 text)) _ x e (λ is h. let t = node_takes (drop 5 text) x h in (word_takes (codes "node ") text is ∙ t.0, t.1))
    (λ e. if_read {P = SpellsReply text x} (begins (codes "nodes ") text) (nodes_at (drop 6 text)) _ x e (λ is h. let t = nodes_takes (drop 6 text) x h in (word_takes (codes "nodes ") text is ∙ t.0, t.1))
    (λ e. if_read {P = SpellsReply text x} (begins (codes "count ") text) (count_at (drop 6 text)) _ x e (λ is h. let t = count_takes (drop 6 text) x h in (word_takes (codes "count ") text is ∙ t.0, t.1))
    (λ e. if_read {P = SpellsReply text x} (begins (codes "done ") text) (done_at (drop 5 text)) _ x e (λ is h. let t = done_takes (drop 5 text) x h in (word_takes (codes "done ") text is ∙ t.0, t.1))
    (λ e. no_takes text x e)))))

pub spelled_reply-again : (x : Reply) → IsReply x → spelled_reply (reply_text x) ≡ Some x
unfolding spelled_reply spelled_no script_no reply_text
spelled_reply-again (reply.Changed n k) is = changed_again n k is.0 is.1
spelled_reply-again (reply.Node pv cv kids x) is = node_again pv cv kids x is.0 is.1 is.2 is.3
spelled_reply-again (reply.Nodes m nodes) is = nodes_again m nodes is.0 is.1
spelled_reply-again (reply.Count m) is = count_again m is
spelled_reply-again (reply.Done k values) is = done_again k values is.0 is.1
spelled_reply-again reply.NoRoot is = refl
spelled_reply-again reply.NoDeep is = refl
spelled_reply-again reply.NoScript is = refl
spelled_reply-again reply.NoExists is = refl
spelled_reply-again reply.NoAbsent is = refl
spelled_reply-again reply.NoMismatch is = refl
spelled_reply-again (reply.NoWhile p) is = while_again p is
spelled_reply-again reply.NoName is = refl
spelled_reply-again reply.NoSpent is = refl
spelled_reply-again (reply.NoAbort b) is = abort_again b is
spelled_reply-again reply.NoFull is = refl

-- ---- what stands in a `#` line

command_entry-takes : (l : ℕ) (text : List ℕ) (x : EntryText) → command_entry text ≡ Some x → (text ≡ entry_text x) × IsEntryText l x
unfolding command_entry entry_text
command_entry-takes l text x e =
    let a = bind_some (spelled_command text) (λ c. Some (entry.Command c)) x e in
    subst (λ (y : EntryText). (text ≡ entry_text y) × IsEntryText l y) (some_is (entry.Command a.0) x a.2) (spelled_command-takes text a.0 a.1)

command_entry-again : (c : Command) → IsCommand c → command_entry (command_text c) ≡ Some (entry.Command c)
unfolding command_entry
command_entry-again c is = ap (λ (o : Option Command). o >>= λ d. Some (entry.Command d)) (spelled_command-again c is)

fire_entry-takes : (text : List ℕ) (x : EntryText) → fire_entry text ≡ Some x → (codes "fire " ++ text ≡ entry_text x) × IsEntryText 0 x
unfolding fire_entry entry_text
fire_entry-takes text x e =
    let a = bind_some (spelled_number text) (λ s. Some (entry.Fire s)) x e in
    let s = spelled_number-takes text a.0 a.1 in
    subst (λ (y : EntryText). (codes "fire " ++ text ≡ entry_text y) × IsEntryText 0 y) (some_is (entry.Fire a.0) x a.2) (ap (λ (t : List ℕ). codes "fire " ++ t) s.0, (refl, s.1))

fire_entry-again : (s : ℕ) → IsNumber s → fire_entry (decimal s) ≡ Some (entry.Fire s)
unfolding fire_entry
fire_entry-again s is = ap (λ (o : Option ℕ). o >>= λ n. Some (entry.Fire n)) (spelled_number-again s is)

-- the text is the spelling of what stands in the line of no input line
abbrev pub SpellsOlder : List ℕ → EntryText → Type 0
SpellsOlder text x = (text ≡ entry_text x) × IsEntryText 0 x

older_takes : (text : List ℕ) (x : EntryText) → older_entry text ≡ Some x → SpellsOlder text x
unfolding older_entry entry_text
older_takes text x e =
    if_read {P = SpellsOlder text x} (is_word (codes "noop") text) (Some entry.Noop) _ x e (word_is SpellsOlder entry.Noop x (codes "noop") text (refl, refl))
    (λ e. if_read {P = SpellsOlder text x} (begins (codes "fire ") text) (fire_entry (drop 5 text)) _ x e (λ is h. let t = fire_entry-takes (drop 5 text) x h in (word_takes (codes "fire ") text is ∙ t.0, t.1))
    (λ e. command_entry-takes 0 text x e))

-- a command is no fire and no noop
older_command : (c : Command) → older_entry (command_text c) ≡ command_entry (command_text c)
unfolding older_entry command_text
older_command (Put p x w) = refl
older_command (Create p x w) = refl
older_command (Update p x w) = refl
older_command (Cas p c x w) = refl
older_command (Clear p) = refl
older_command (Del p) = refl
older_command (Delmany parts) = refl
older_command (Get p) = refl
older_command (Many parts limit) = refl
older_command (Count parts) = refl
older_command (Tx args s) = refl
older_command (Run p args) = refl

pub spelled_entry-takes : (l : ℕ) (text : List ℕ) (x : EntryText) → spelled_entry l text ≡ Some x → (text ≡ entry_text x) × IsEntryText l x
unfolding spelled_entry
spelled_entry-takes l text x e =
    if_read {P = (text ≡ entry_text x) × IsEntryText l x} (eqb l 0) (older_entry text) (command_entry text) x e
    (λ is h. subst (λ (m : ℕ). (text ≡ entry_text x) × IsEntryText m x) (sym (eqb-true l 0 is)) (older_takes text x h))
    (λ h. command_entry-takes l text x h)

fire_again : (s : ℕ) → IsNumber s → spelled_entry 0 (entry_text (entry.Fire s)) ≡ Some (entry.Fire s)
unfolding spelled_entry older_entry entry_text
fire_again s is = fire_entry-again s is

noop_again : spelled_entry 0 (entry_text entry.Noop) ≡ Some entry.Noop
unfolding spelled_entry older_entry entry_text
noop_again = refl

pub spelled_entry-again : (l : ℕ) (x : EntryText) → IsEntryText l x → spelled_entry l (entry_text x) ≡ Some x
unfolding spelled_entry entry_text
spelled_entry-again l (entry.Command c) is =
    both_cases (eqb l 0) (older_entry (command_text c)) (command_entry (command_text c)) (Some (entry.Command c)) (older_command c ∙ command_entry-again c is) (command_entry-again c is)
spelled_entry-again l (entry.Fire s) is = ap (λ (m : ℕ). spelled_entry m (entry_text (entry.Fire s))) is.0 ∙ fire_again s is.1
spelled_entry-again l entry.Noop is = ap (λ (m : ℕ). spelled_entry m (entry_text entry.Noop)) is ∙ noop_again

-- ---- words

-- the text is the word of this reason
abbrev pub SpellsReason : List ℕ → Reason → Type 0
SpellsReason text x = text ≡ reason_text x

reason_takes : (text : List ℕ) (x : Reason) → spelled_reason text ≡ Some x → SpellsReason text x
unfolding spelled_reason reason_text
reason_takes text x e =
    if_read {P = SpellsReason text x} (is_word (codes "toolong") text) (Some TooLong) _ x e (word_is SpellsReason TooLong x (codes "toolong") text refl)
    (λ e. if_read {P = SpellsReason text x} (is_word (codes "badline") text) (Some BadLine) _ x e (word_is SpellsReason BadLine x (codes "badline") text refl)
    (λ e. if_read {P = SpellsReason text x} (is_word (codes "nonode") text) (Some NoNode) _ x e (word_is SpellsReason NoNode x (codes "nonode") text refl)
    (λ e. if_read {P = SpellsReason text x} (is_word (codes "running") text) (Some Running) _ x e (word_is SpellsReason Running x (codes "running") text refl)
    (λ e. if_read {P = SpellsReason text x} (is_word (codes "stopped") text) (Some Stopped) _ x e (word_is SpellsReason Stopped x (codes "stopped") text refl)
    (λ e. if_read {P = SpellsReason text x} (is_word (codes "notleader") text) (Some NotLeader) _ x e (word_is SpellsReason NotLeader x (codes "notleader") text refl)
    (λ e. if_read {P = SpellsReason text x} (is_word (codes "logfull") text) (Some LogFull) _ x e (word_is SpellsReason LogFull x (codes "logfull") text refl)
    (λ e. if_read {P = SpellsReason text x} (is_word (codes "backlog") text) (Some Backlog) _ x e (word_is SpellsReason Backlog x (codes "backlog") text refl)
    (λ e. if_read {P = SpellsReason text x} (is_word (codes "noslot") text) (Some NoSlot) _ x e (word_is SpellsReason NoSlot x (codes "noslot") text refl)
    (λ e. absurd cc)))))))))

reason_again : (x : Reason) → spelled_reason (reason_text x) ≡ Some x
unfolding spelled_reason reason_text
reason_again TooLong = refl
reason_again BadLine = refl
reason_again NoNode = refl
reason_again Running = refl
reason_again Stopped = refl
reason_again NotLeader = refl
reason_again LogFull = refl
reason_again Backlog = refl
reason_again NoSlot = refl

-- no reason is `lost`
not_lost : (x : Reason) → is_word (codes "lost") (reason_text x) ≡ false
unfolding reason_text
not_lost TooLong = refl
not_lost BadLine = refl
not_lost NoNode = refl
not_lost Running = refl
not_lost Stopped = refl
not_lost NotLeader = refl
not_lost LogFull = refl
not_lost Backlog = refl
not_lost NoSlot = refl

-- the text is the word of this cause
abbrev pub SpellsStop : List ℕ → StopWord → Type 0
SpellsStop text x = text ≡ stop_text x

stop_takes : (text : List ℕ) (x : StopWord) → spelled_stop text ≡ Some x → SpellsStop text x
unfolding spelled_stop stop_text
stop_takes text x e =
    if_read {P = SpellsStop text x} (is_word (codes "order") text) (Some Order) _ x e (word_is SpellsStop Order x (codes "order") text refl)
    (λ e. if_read {P = SpellsStop text x} (is_word (codes "vault") text) (Some Vault) _ x e (word_is SpellsStop Vault x (codes "vault") text refl)
    (λ e. if_read {P = SpellsStop text x} (is_word (codes "memory") text) (Some Memory) _ x e (word_is SpellsStop Memory x (codes "memory") text refl)
    (λ e. if_read {P = SpellsStop text x} (is_word (codes "bad") text) (Some Bad) _ x e (word_is SpellsStop Bad x (codes "bad") text refl)
    (λ e. absurd cc))))

stop_again : (x : StopWord) → spelled_stop (stop_text x) ≡ Some x
unfolding spelled_stop stop_text
stop_again Order = refl
stop_again Vault = refl
stop_again Memory = refl
stop_again Bad = refl

-- the text is the spelling of these rows
abbrev pub SpellsRows : List ℕ → Rows → Type 0
SpellsRows text x = text ≡ rows_text x

rows_takes : (text : List ℕ) (x : Rows) → spelled_rows text ≡ Some x → SpellsRows text x
unfolding spelled_rows rows_text
rows_takes text x e =
    if_read {P = SpellsRows text x} (is_word (codes "none") text) (Some Absent) None x e (word_is SpellsRows Absent x (codes "none") text refl) (λ h. absurd cc)

rows_again : (x : Rows) → spelled_rows (rows_text x) ≡ Some x
unfolding spelled_rows rows_text
rows_again Absent = refl

-- ---- output lines that are read

-- the text is the spelling of this output line
abbrev pub Spells : List ℕ → OutLine → Type 0
Spells text x = (text ≡ out_text x) × HasSpelling x

entry_takes : (text : List ℕ) (x : OutLine) → entry_line text ≡ Some x → Spells (codes "# " ++ text) x
unfolding entry_line out_text
entry_takes text x e =
    let a = bind_some (number_before (codes " @") text) (λ n. number_before (codes " ") n.1 >>= λ l. spelled_entry l.0 l.1 >>= λ t. Some (out.Entry n.0 l.0 t)) x e in
    let b = bind_some (number_before (codes " ") a.0.1) (λ l. spelled_entry l.0 l.1 >>= λ t. Some (out.Entry a.0.0 l.0 t)) x a.2 in
    let c = bind_some (spelled_entry b.0.0 b.0.1) (λ t. Some (out.Entry a.0.0 b.0.0 t)) x b.2 in
    let n = before_takes (codes " @") text a.0 a.1 in
    let l = before_takes (codes " ") a.0.1 b.0 b.1 in
    let t = spelled_entry-takes b.0.0 b.0.1 c.0 c.1 in
    let last : a.0.1 ≡ decimal b.0.0 ++ 32 ∷ entry_text c.0 = l.0 ∙ ap (λ (r : List ℕ). decimal b.0.0 ++ 32 ∷ r) t.0 in
    subst (Spells (codes "# " ++ text)) (some_is (out.Entry a.0.0 b.0.0 c.0) x c.2)
    (ap (λ (r : List ℕ). codes "# " ++ r) (n.0 ∙ (ap (λ (r : List ℕ). decimal a.0.0 ++ 32 ∷ 64 ∷ r) last ∙ sym (joined (decimal a.0.0) (codes " @") (decimal b.0.0) (32 ∷ entry_text c.0)))), (n.1, l.1, t.1))

reply_takes : (text : List ℕ) (x : OutLine) → reply_line text ≡ Some x → Spells (codes "= " ++ text) x
unfolding reply_line out_text
reply_takes text x e =
    let a = bind_some (number_before (codes " ") text) (λ l. number_before (codes " ") l.1 >>= λ n. spelled_reply n.1 >>= λ r. Some (out.Reply l.0 n.0 r)) x e in
    let b = bind_some (number_before (codes " ") a.0.1) (λ n. spelled_reply n.1 >>= λ r. Some (out.Reply a.0.0 n.0 r)) x a.2 in
    let c = bind_some (spelled_reply b.0.1) (λ r. Some (out.Reply a.0.0 b.0.0 r)) x b.2 in
    let l = before_takes (codes " ") text a.0 a.1 in
    let n = before_takes (codes " ") a.0.1 b.0 b.1 in
    let r = spelled_reply-takes b.0.1 c.0 c.1 in
    let last : a.0.1 ≡ decimal b.0.0 ++ 32 ∷ reply_text c.0 = n.0 ∙ ap (λ (t : List ℕ). decimal b.0.0 ++ 32 ∷ t) r.0 in
    subst (Spells (codes "= " ++ text)) (some_is (out.Reply a.0.0 b.0.0 c.0) x c.2)
    (ap (λ (t : List ℕ). codes "= " ++ t) (l.0 ∙ (ap (λ (t : List ℕ). decimal a.0.0 ++ 32 ∷ t) last ∙ sym (append_assoc (decimal a.0.0) (32 ∷ decimal b.0.0) (32 ∷ reply_text c.0)))), (l.1, n.1, r.1))

refused_takes : (l : ℕ) (text : List ℕ) (x : OutLine) → IsNumber l → refused_line l text ≡ Some x → Spells (codes "- " ++ decimal l ++ 32 ∷ text) x
unfolding refused_line out_text
refused_takes l text x is e =
    let a = bind_some (spelled_reason text) (λ r. Some (out.Refused l r)) x e in
    subst (Spells (codes "- " ++ decimal l ++ 32 ∷ text)) (some_is (out.Refused l a.0) x a.2)
    (ap (λ (t : List ℕ). codes "- " ++ decimal l ++ 32 ∷ t) (reason_takes text a.0 a.1), is)

lost_takes : (l : ℕ) (text : List ℕ) (x : OutLine) → IsNumber l → is_word (codes "lost") text ≡ true → Some (out.Lost l) ≡ Some x → Spells (codes "- " ++ decimal l ++ 32 ∷ text) x
unfolding out_text
lost_takes l text x is e h = word_is (λ t y. Spells (codes "- " ++ decimal l ++ 32 ∷ t) y) (out.Lost l) x (codes "lost") text (refl, is) e h

end_takes : (text : List ℕ) (x : OutLine) → end_line text ≡ Some x → Spells (codes "- " ++ text) x
unfolding end_line
end_takes text x e =
    let a = bind_some (number_before (codes " ") text) (λ l. cond (is_word (codes "lost") l.1) (Some (out.Lost l.0)) (refused_line l.0 l.1)) x e in
    let l = before_takes (codes " ") text a.0 a.1 in
    let s : Spells (codes "- " ++ decimal a.0.0 ++ 32 ∷ a.0.1) x =
    if_read {P = Spells (codes "- " ++ decimal a.0.0 ++ 32 ∷ a.0.1) x} (is_word (codes "lost") a.0.1) (Some (out.Lost a.0.0)) (refused_line a.0.0 a.0.1) x a.2
    (lost_takes a.0.0 a.0.1 x l.1) (refused_takes a.0.0 a.0.1 x l.1) in
    (ap (λ (t : List ℕ). codes "- " ++ t) l.0 ∙ s.0, s.1)

pending_takes : (text : List ℕ) (x : OutLine) → pending_line text ≡ Some x → Spells (codes "? " ++ text) x
unfolding pending_line out_text
pending_takes text x e =
    let a = bind_some (number_before (codes " ") text) (λ l. spelled_number l.1 >>= λ n. Some (out.Pending l.0 n)) x e in
    let b = bind_some (spelled_number a.0.1) (λ n. Some (out.Pending a.0.0 n)) x a.2 in
    let l = before_takes (codes " ") text a.0 a.1 in
    let n = spelled_number-takes a.0.1 b.0 b.1 in
    subst (Spells (codes "? " ++ text)) (some_is (out.Pending a.0.0 b.0) x b.2)
    (ap (λ (t : List ℕ). codes "? " ++ t) (l.0 ∙ ap (λ (t : List ℕ). decimal a.0.0 ++ 32 ∷ t) n.0), (l.1, n.1))

rows_line-takes : (text : List ℕ) (x : OutLine) → rows_line text ≡ Some x → Spells (codes "* " ++ text) x
unfolding rows_line out_text
rows_line-takes text x e =
    let a = bind_some (number_before (codes " ") text) (λ l. number_before (codes " ") l.1 >>= λ n. spelled_rows n.1 >>= λ r. Some (out.Read l.0 n.0 r)) x e in
    let b = bind_some (number_before (codes " ") a.0.1) (λ n. spelled_rows n.1 >>= λ r. Some (out.Read a.0.0 n.0 r)) x a.2 in
    let c = bind_some (spelled_rows b.0.1) (λ r. Some (out.Read a.0.0 b.0.0 r)) x b.2 in
    let l = before_takes (codes " ") text a.0 a.1 in
    let n = before_takes (codes " ") a.0.1 b.0 b.1 in
    let last : a.0.1 ≡ decimal b.0.0 ++ 32 ∷ rows_text c.0 = n.0 ∙ ap (λ (t : List ℕ). decimal b.0.0 ++ 32 ∷ t) (rows_takes b.0.1 c.0 c.1) in
    subst (Spells (codes "* " ++ text)) (some_is (out.Read a.0.0 b.0.0 c.0) x c.2)
    (ap (λ (t : List ℕ). codes "* " ++ t) (l.0 ∙ (ap (λ (t : List ℕ). decimal a.0.0 ++ 32 ∷ t) last ∙ sym (append_assoc (decimal a.0.0) (32 ∷ decimal b.0.0) (32 ∷ rows_text c.0)))), (l.1, n.1))

leads_takes : (k : ℕ) (text : List ℕ) (x : OutLine) → IsNode k → leads_line k text ≡ Some x → Spells (codes "! " ++ (decimal k ++ 32 ∷ (codes "leads " ++ text))) x
unfolding leads_line out_text
leads_takes k text x is e =
    let a = bind_some (spelled_number text) (λ t. Some (out.Leads k t)) x e in
    let t = spelled_number-takes text a.0 a.1 in
    subst (Spells (codes "! " ++ (decimal k ++ 32 ∷ (codes "leads " ++ text)))) (some_is (out.Leads k a.0) x a.2)
    (ap (λ (r : List ℕ). codes "! " ++ r) (ap (λ (r : List ℕ). decimal k ++ 32 ∷ (codes "leads " ++ r)) t.0 ∙ sym (append_assoc (decimal k) (codes " leads ") (decimal a.0))), (is, t.1))

follows_takes : (k : ℕ) (text : List ℕ) (x : OutLine) → IsNode k → follows_line k text ≡ Some x → Spells (codes "! " ++ (decimal k ++ 32 ∷ (codes "follows " ++ text))) x
unfolding follows_line out_text
follows_takes k text x is e =
    let a = bind_some (spelled_number text) (λ t. Some (out.Follows k t)) x e in
    let t = spelled_number-takes text a.0 a.1 in
    subst (Spells (codes "! " ++ (decimal k ++ 32 ∷ (codes "follows " ++ text)))) (some_is (out.Follows k a.0) x a.2)
    (ap (λ (r : List ℕ). codes "! " ++ r) (ap (λ (r : List ℕ). decimal k ++ 32 ∷ (codes "follows " ++ r)) t.0 ∙ sym (append_assoc (decimal k) (codes " follows ") (decimal a.0))), (is, t.1))

stopped_takes : (k : ℕ) (text : List ℕ) (x : OutLine) → IsNode k → stopped_line k text ≡ Some x → Spells (codes "! " ++ (decimal k ++ 32 ∷ (codes "stopped " ++ text))) x
unfolding stopped_line out_text
stopped_takes k text x is e =
    let a = bind_some (spelled_stop text) (λ c. Some (out.Stopped k c)) x e in
    subst (Spells (codes "! " ++ (decimal k ++ 32 ∷ (codes "stopped " ++ text)))) (some_is (out.Stopped k a.0) x a.2)
    (ap (λ (r : List ℕ). codes "! " ++ r) (ap (λ (r : List ℕ). decimal k ++ 32 ∷ (codes "stopped " ++ r)) (stop_takes text a.0 a.1) ∙ sym (append_assoc (decimal k) (codes " stopped ") (stop_text a.0))), is)

started_takes : (k : ℕ) (text : List ℕ) (x : OutLine) → IsNode k → is_word (codes "started") text ≡ true → Some (out.Started k) ≡ Some x → Spells (codes "! " ++ decimal k ++ 32 ∷ text) x
unfolding out_text
started_takes k text x is e h = word_is (λ t y. Spells (codes "! " ++ decimal k ++ 32 ∷ t) y) (out.Started k) x (codes "started") text (refl, is) e h

-- what is said of a node, behind its digit
news_takes : (k : ℕ) (text : List ℕ) (x : OutLine) → IsNode k → node_news k text ≡ Some x → Spells (codes "! " ++ decimal k ++ 32 ∷ text) x
unfolding node_news
news_takes k text x is e =
    if_read {P = Spells (codes "! " ++ decimal k ++ 32 ∷ text) x} (begins (codes "leads ") text) (leads_line k (drop 6 text)) _ x e (λ b h. let t = leads_takes k (drop 6 text) x is h in (ap (λ (r : List ℕ). codes "! " ++ decimal k ++ 32 ∷ r) (word_takes (codes "leads ") text b) ∙ t.0, t.1))
    (λ e. if_read {P = Spells (codes "! " ++ decimal k ++ 32 ∷ text) x} (begins (codes "follows ") text) (follows_line k (drop 8 text)) _ x e (λ b h. let t = follows_takes k (drop 8 text) x is h in (ap (λ (r : List ℕ). codes "! " ++ decimal k ++ 32 ∷ r) (word_takes (codes "follows ") text b) ∙ t.0, t.1))
    (λ e. if_read {P = Spells (codes "! " ++ decimal k ++ 32 ∷ text) x} (begins (codes "stopped ") text) (stopped_line k (drop 8 text)) _ x e (λ b h. let t = stopped_takes k (drop 8 text) x is h in (ap (λ (r : List ℕ). codes "! " ++ decimal k ++ 32 ∷ r) (word_takes (codes "stopped ") text b) ∙ t.0, t.1))
    (λ e. if_read {P = Spells (codes "! " ++ decimal k ++ 32 ∷ text) x} (is_word (codes "started") text) (Some (out.Started k)) _ x e (started_takes k text x is)
    (λ e. absurd cc))))

node_line-takes : (text : List ℕ) (x : OutLine) → node_line text ≡ Some x → Spells (codes "! " ++ text) x
unfolding node_line
node_line-takes [] x e = absurd cc
node_line-takes (d ∷ []) x e = absurd cc
node_line-takes (d ∷ s ∷ text) x e =
    let g = guard_some (leb 49 d && leb d 57 && eqb s 32) (node_news (d - 48) text) x e in
    let t = and_true (leb 49 d && leb d 57) (eqb s 32) g.0 in
    let u = and_true (leb 49 d) (leb d 57) t.0 in
    let k = digit_is d u.0 u.1 in
    let n = news_takes (d - 48) text x k.1 g.1 in
    let head : d ∷ s ∷ text ≡ (d ∷ []) ++ 32 ∷ text = ap (λ (b : ℕ). d ∷ b ∷ text) (eqb-true s 32 t.1) in
    (ap (λ (r : List ℕ). codes "! " ++ r) (head ∙ ap (λ (r : List ℕ). r ++ 32 ∷ text) k.0) ∙ n.0, n.1)

-- what is read as an output line has a spelling, and is spelled so
pub out_at-takes : (text : List ℕ) (x : OutLine) → out_at text ≡ Some x → (text ≡ out_text x) × HasSpelling x
unfolding out_at
out_at-takes text x e =
    if_read {P = Spells text x} (begins (codes "# ") text) (entry_line (drop 2 text)) _ x e (λ is h. let t = entry_takes (drop 2 text) x h in (word_takes (codes "# ") text is ∙ t.0, t.1))
    (λ e. if_read {P = Spells text x} (begins (codes "= ") text) (reply_line (drop 2 text)) _ x e (λ is h. let t = reply_takes (drop 2 text) x h in (word_takes (codes "= ") text is ∙ t.0, t.1))
    (λ e. if_read {P = Spells text x} (begins (codes "- ") text) (end_line (drop 2 text)) _ x e (λ is h. let t = end_takes (drop 2 text) x h in (word_takes (codes "- ") text is ∙ t.0, t.1))
    (λ e. if_read {P = Spells text x} (begins (codes "? ") text) (pending_line (drop 2 text)) _ x e (λ is h. let t = pending_takes (drop 2 text) x h in (word_takes (codes "? ") text is ∙ t.0, t.1))
    (λ e. if_read {P = Spells text x} (begins (codes "* ") text) (rows_line (drop 2 text)) _ x e (λ is h. let t = rows_line-takes (drop 2 text) x h in (word_takes (codes "* ") text is ∙ t.0, t.1))
    (λ e. if_read {P = Spells text x} (begins (codes "! ") text) (node_line (drop 2 text)) _ x e (λ is h. let t = node_line-takes (drop 2 text) x h in (word_takes (codes "! ") text is ∙ t.0, t.1))
    (λ e. absurd cc))))))

-- ---- output lines that are spelled

entry_again : (n l : ℕ) (t : EntryText) → IsNumber n → IsNumber l → IsEntryText l t → entry_line (decimal n ++ codes " @" ++ decimal l ++ 32 ∷ entry_text t) ≡ Some (out.Entry n l t)
unfolding entry_line
entry_again n l t is-n is-l is-t =
    ap (λ (r : List ℕ). number_before (codes " @") r >>= λ a. number_before (codes " ") a.1 >>= λ b. spelled_entry b.0 b.1 >>= λ c. Some (out.Entry a.0 b.0 c)) (joined (decimal n) (codes " @") (decimal l) (32 ∷ entry_text t))
    ∙ (ap (λ (o : Option (ℕ × List ℕ)). o >>= λ a. number_before (codes " ") a.1 >>= λ b. spelled_entry b.0 b.1 >>= λ c. Some (out.Entry a.0 b.0 c)) (at_again n (decimal l ++ 32 ∷ entry_text t) is-n)
    ∙ (ap (λ (o : Option (ℕ × List ℕ)). o >>= λ b. spelled_entry b.0 b.1 >>= λ c. Some (out.Entry n b.0 c)) (space_again l (entry_text t) is-l)
    ∙ ap (λ (o : Option EntryText). o >>= λ c. Some (out.Entry n l c)) (spelled_entry-again l t is-t)))

reply_again : (l n : ℕ) (r : Reply) → IsNumber l → IsNumber n → IsReply r → reply_line (decimal l ++ 32 ∷ decimal n ++ 32 ∷ reply_text r) ≡ Some (out.Reply l n r)
unfolding reply_line
reply_again l n r is-l is-n is-r =
    ap (λ (t : List ℕ). number_before (codes " ") t >>= λ a. number_before (codes " ") a.1 >>= λ b. spelled_reply b.1 >>= λ c. Some (out.Reply a.0 b.0 c)) (append_assoc (decimal l) (32 ∷ decimal n) (32 ∷ reply_text r))
    ∙ (ap (λ (o : Option (ℕ × List ℕ)). o >>= λ a. number_before (codes " ") a.1 >>= λ b. spelled_reply b.1 >>= λ c. Some (out.Reply a.0 b.0 c)) (space_again l (decimal n ++ 32 ∷ reply_text r) is-l)
    ∙ (ap (λ (o : Option (ℕ × List ℕ)). o >>= λ b. spelled_reply b.1 >>= λ c. Some (out.Reply l b.0 c)) (space_again n (reply_text r) is-n)
    ∙ ap (λ (o : Option Reply). o >>= λ c. Some (out.Reply l n c)) (spelled_reply-again r is-r)))

lost_again : (l : ℕ) → IsNumber l → end_line (decimal l ++ 32 ∷ codes "lost") ≡ Some (out.Lost l)
unfolding end_line
lost_again l is = ap (λ (o : Option (ℕ × List ℕ)). o >>= λ a. cond (is_word (codes "lost") a.1) (Some (out.Lost a.0)) (refused_line a.0 a.1)) (space_again l (codes "lost") is)

refused_again : (l : ℕ) (r : Reason) → IsNumber l → end_line (decimal l ++ 32 ∷ reason_text r) ≡ Some (out.Refused l r)
unfolding end_line refused_line
refused_again l r is =
    ap (λ (o : Option (ℕ × List ℕ)). o >>= λ a. cond (is_word (codes "lost") a.1) (Some (out.Lost a.0)) (refused_line a.0 a.1)) (space_again l (reason_text r) is)
    ∙ (ap (λ (t : Bool). cond t (Some (out.Lost l)) (refused_line l (reason_text r))) (not_lost r)
    ∙ ap (λ (o : Option Reason). o >>= λ c. Some (out.Refused l c)) (reason_again r))

pending_again : (l n : ℕ) → IsNumber l → IsNumber n → pending_line (decimal l ++ 32 ∷ decimal n) ≡ Some (out.Pending l n)
unfolding pending_line
pending_again l n is-l is-n =
    ap (λ (o : Option (ℕ × List ℕ)). o >>= λ a. spelled_number a.1 >>= λ b. Some (out.Pending a.0 b)) (space_again l (decimal n) is-l)
    ∙ ap (λ (o : Option ℕ). o >>= λ b. Some (out.Pending l b)) (spelled_number-again n is-n)

rows_line-again : (l n : ℕ) (r : Rows) → IsNumber l → IsNumber n → rows_line (decimal l ++ 32 ∷ decimal n ++ 32 ∷ rows_text r) ≡ Some (out.Read l n r)
unfolding rows_line
rows_line-again l n r is-l is-n =
    ap (λ (t : List ℕ). number_before (codes " ") t >>= λ a. number_before (codes " ") a.1 >>= λ b. spelled_rows b.1 >>= λ c. Some (out.Read a.0 b.0 c)) (append_assoc (decimal l) (32 ∷ decimal n) (32 ∷ rows_text r))
    ∙ (ap (λ (o : Option (ℕ × List ℕ)). o >>= λ a. number_before (codes " ") a.1 >>= λ b. spelled_rows b.1 >>= λ c. Some (out.Read a.0 b.0 c)) (space_again l (decimal n ++ 32 ∷ rows_text r) is-l)
    ∙ (ap (λ (o : Option (ℕ × List ℕ)). o >>= λ b. spelled_rows b.1 >>= λ c. Some (out.Read l b.0 c)) (space_again n (rows_text r) is-n)
    ∙ ap (λ (o : Option Rows). o >>= λ c. Some (out.Read l n c)) (rows_again r)))

news_read : (d : ℕ) (text : List ℕ) → 49 ≤ d → d ≤ 57 → node_line (d ∷ 32 ∷ text) ≡ node_news (d - 48) text
unfolding node_line
news_read d text low high =
    ap (λ (t : Bool). cond (t && leb d 57 && true) (node_news (d - 48) text) None) (le-leb 49 d low)
    ∙ ap (λ (t : Bool). cond (t && true) (node_news (d - 48) text) None) (le-leb d 57 high)

node_read : (k : ℕ) (text : List ℕ) → IsNode k → node_line (decimal k ++ 32 ∷ text) ≡ node_news k text
node_read k text is =
    let digit : decimal k ≡ (48 + k) ∷ [] = decimal_digit k (omega (arith, is.1)) in
    let back : 48 + k - 48 ≡ k = omega arith in
    ap (λ (n : List ℕ). node_line (n ++ 32 ∷ text)) digit ∙ (news_read (48 + k) text (omega (arith, is.0)) (omega (arith, is.1)) ∙ ap (λ (n : ℕ). node_news n text) back)

leads_again : (k t : ℕ) → IsNumber t → node_news k (codes "leads " ++ decimal t) ≡ Some (out.Leads k t)
unfolding node_news leads_line
leads_again k t is = ap (λ (o : Option ℕ). o >>= λ n. Some (out.Leads k n)) (spelled_number-again t is)

follows_again : (k t : ℕ) → IsNumber t → node_news k (codes "follows " ++ decimal t) ≡ Some (out.Follows k t)
unfolding node_news follows_line
follows_again k t is = ap (λ (o : Option ℕ). o >>= λ n. Some (out.Follows k n)) (spelled_number-again t is)

stopped_again : (k : ℕ) (c : StopWord) → node_news k (codes "stopped " ++ stop_text c) ≡ Some (out.Stopped k c)
unfolding node_news stopped_line
stopped_again k c = ap (λ (o : Option StopWord). o >>= λ x. Some (out.Stopped k x)) (stop_again c)

started_again : (k : ℕ) → node_news k (codes "started") ≡ Some (out.Started k)
unfolding node_news
started_again k = refl

-- what is spelled as an output line is read again
pub out_at-again : (x : OutLine) → HasSpelling x → out_at (out_text x) ≡ Some x
unfolding out_at out_text
out_at-again (out.Entry n l t) is = entry_again n l t is.0 is.1 is.2
out_at-again (out.Reply l n r) is = reply_again l n r is.0 is.1 is.2
out_at-again (out.Lost l) is = lost_again l is
out_at-again (out.Pending l n) is = pending_again l n is.0 is.1
out_at-again (out.Read l n rows) is = rows_line-again l n rows is.0 is.1
out_at-again (out.Refused l r) is = refused_again l r is
out_at-again (out.Leads k t) is = ap node_line (append_assoc (decimal k) (codes " leads ") (decimal t)) ∙ (node_read k (codes "leads " ++ decimal t) is.0 ∙ leads_again k t is.1)
out_at-again (out.Follows k t) is = ap node_line (append_assoc (decimal k) (codes " follows ") (decimal t)) ∙ (node_read k (codes "follows " ++ decimal t) is.0 ∙ follows_again k t is.1)
out_at-again (out.Stopped k c) is = ap node_line (append_assoc (decimal k) (codes " stopped ") (stop_text c)) ∙ (node_read k (codes "stopped " ++ stop_text c) is ∙ stopped_again k c)
out_at-again (out.Started k) is = node_read k (codes "started") is ∙ started_again k
