-- What is read of commands and lines is spelled so, and what is spelled so is read.
use Rattle.std.proofs.Common.{◌≡◌, ℕ, ◌+◌, ◌-◌, ◌≤◌, Bool, true, cond, eqb, leb, ◌&&◌, List, [], ◌∷◌, ◌++◌, length, drop, refl, sym, ap, subst, ◌∙◌, arith, Option, Some, None, codes, decimal}
use Rattle.std.proofs.lemmas.Bool.Decides.{nat_tests}
use Rattle.std.proofs.lemmas.Bool.{eqb-true, le-leb}
use Rattle.std.proofs.lemmas.Fmt.{decimal_digit}
use Rattle.khepri_terms.specs.Terms.{NameText}
use Rattle.khepri_terms.specs.Paths.{path_text, IsPath}
use Rattle.khepri_terms.proofs.Cases.{guard_some, some_is, and_true}
use Rattle.khepri_types.specs.declared.node.Payload.{Payload}
use Rattle.khepri_types.specs.declared.command.Command.{Command}
use Rattle.khepri_types.specs.declared.command.Command.TheVariants.{Put, Create, Update, Cas, Clear, Del, Delmany, Get, Many, Count, Tx, Run}
use Rattle.khepri_types.specs.declared.command.Line.{Line}
use Rattle.khepri_types.specs.declared.command.Line.TheVariants as line
use Rattle.khepri_types.specs.declared.pattern.PatternPart.{PatternPart}
use Rattle.khepri_types.specs.declared.watch.Watching.{Watching}
use Rattle.khepri_types.specs.PatternTexts.{pattern_text, IsPattern}
use Rattle.khepri_types.specs.Texts.{assigned_text, command_text, line_text}
use Rattle.khepri_types.specs.Spelled.{IsNode, IsPayload, IsWatching, IsCommand, IsLine}
use Rattle.khepri_types.specs.Reading.{begins, spelled_path, Assigned, spelled_assigned, assigning, naming, spelled_cas, spelled_pattern, scanning, spelled_many, running, deleting_or_asking, spelled_command, asked, line_at}
use Rattle.khepri_types.proofs.AskedSpelling.{spelled_pattern-takes, spelled_pattern-again, cas_takes, cas_again, many_command-takes, many_command-again}
pub use Rattle.khepri_types.proofs.PayloadSpelling.{spelled_payload-takes, spelled_payload-again, spelled_path-takes, spelled_path-again, payload_takes, payload_again, spelled_assigned-takes, spelled_assigned-again}
use Rattle.khepri_types.proofs.RunSpelling.{tx_again, run_again, running_takes}
use Rattle.khepri_types.proofs.Word.{if_read, word_takes}

-- ---- commands

assigning_is : (command : List NameText → Payload → Watching → Command) (o : Option Assigned) (c : Command) → assigning command o ≡ Some c → (a : Assigned) × (o ≡ Some a) × (command a.path a.payload a.watch ≡ c)
assigning_is command None c e = absurd cc
assigning_is command (Some a) c e = (a, refl, some_is (command a.path a.payload a.watch) c e)

naming_is : (command : List NameText → Command) (o : Option (List NameText)) (c : Command) → naming command o ≡ Some c → (p : List NameText) × (o ≡ Some p) × (command p ≡ c)
naming_is command None c e = absurd cc
naming_is command (Some p) c e = (p, refl, some_is (command p) c e)

-- a command of a path, a payload and watches, whose word the text begins with
assigning_takes : (command : List NameText → Payload → Watching → Command) (word text : List ℕ) (c : Command)
    → ((p : List NameText) (x : Payload) (w : Watching) → command_text (command p x w) ≡ word ++ assigned_text p x w)
    → ((p : List NameText) (x : Payload) (w : Watching) → IsPath p × IsPayload x × IsWatching w → IsCommand (command p x w))
    → begins word text ≡ true → assigning command (spelled_assigned (drop (length word) text)) ≡ Some c → (text ≡ command_text c) × IsCommand c
assigning_takes command word text c spells allows begun e =
    let a = assigning_is command (spelled_assigned (drop (length word) text)) c e in
    let t = spelled_assigned-takes (drop (length word) text) a.0 a.1 in
    subst (λ (d : Command). (text ≡ command_text d) × IsCommand d) a.2
    (word_takes word text begun ∙ (ap (λ (r : List ℕ). word ++ r) t.0 ∙ sym (spells a.0.path a.0.payload a.0.watch)), allows a.0.path a.0.payload a.0.watch t.1)

-- a command of a path, whose word the text begins with
naming_takes : (command : List NameText → Command) (word text : List ℕ) (c : Command)
    → ((p : List NameText) → command_text (command p) ≡ word ++ path_text p)
    → ((p : List NameText) → IsPath p → IsCommand (command p))
    → begins word text ≡ true → naming command (spelled_path (drop (length word) text)) ≡ Some c → (text ≡ command_text c) × IsCommand c
naming_takes command word text c spells allows begun e =
    let a = naming_is command (spelled_path (drop (length word) text)) c e in
    let t = spelled_path-takes (drop (length word) text) a.0 a.1 in
    subst (λ (d : Command). (text ≡ command_text d) × IsCommand d) a.2
    (word_takes word text begun ∙ (ap (λ (r : List ℕ). word ++ r) t.0 ∙ sym (spells a.0)), allows a.0 t.1)

scanning_is : (command : List PatternPart → Command) (o : Option (List PatternPart)) (c : Command) → scanning command o ≡ Some c → (parts : List PatternPart) × (o ≡ Some parts) × (command parts ≡ c)
scanning_is command None c e = absurd cc
scanning_is command (Some parts) c e = (parts, refl, some_is (command parts) c e)

-- a command of a pattern, whose word the text begins with
scanning_takes : (command : List PatternPart → Command) (word text : List ℕ) (c : Command)
    → ((parts : List PatternPart) → command_text (command parts) ≡ word ++ pattern_text parts)
    → ((parts : List PatternPart) → IsPattern parts → IsCommand (command parts))
    → begins word text ≡ true → scanning command (spelled_pattern (drop (length word) text)) ≡ Some c → (text ≡ command_text c) × IsCommand c
scanning_takes command word text c spells allows begun e =
    let a = scanning_is command (spelled_pattern (drop (length word) text)) c e in
    let t = spelled_pattern-takes (drop (length word) text) a.0 a.1 in
    subst (λ (d : Command). (text ≡ command_text d) × IsCommand d) a.2
    (word_takes word text begun ∙ (ap (λ (r : List ℕ). word ++ r) t.0 ∙ sym (spells a.0)), allows a.0 t.1)

put_text : (p : List NameText) (x : Payload) (w : Watching) → command_text (Put p x w) ≡ codes "put " ++ assigned_text p x w
unfolding command_text
put_text p x w = refl

create_text : (p : List NameText) (x : Payload) (w : Watching) → command_text (Create p x w) ≡ codes "create " ++ assigned_text p x w
unfolding command_text
create_text p x w = refl

update_text : (p : List NameText) (x : Payload) (w : Watching) → command_text (Update p x w) ≡ codes "update " ++ assigned_text p x w
unfolding command_text
update_text p x w = refl

clear_text : (p : List NameText) → command_text (Clear p) ≡ codes "clear " ++ path_text p
unfolding command_text
clear_text p = refl

del_text : (p : List NameText) → command_text (Del p) ≡ codes "del " ++ path_text p
unfolding command_text
del_text p = refl

get_text : (p : List NameText) → command_text (Get p) ≡ codes "get " ++ path_text p
unfolding command_text
get_text p = refl

delmany_text : (parts : List PatternPart) → command_text (Delmany parts) ≡ codes "delmany " ++ pattern_text parts
unfolding command_text
delmany_text parts = refl

count_text : (parts : List PatternPart) → command_text (Count parts) ≡ codes "count " ++ pattern_text parts
unfolding command_text
count_text parts = refl

-- what is read as a command has a spelling, and is spelled so
pub spelled_command-takes : (text : List ℕ) (c : Command) → spelled_command text ≡ Some c → (text ≡ command_text c) × IsCommand c
unfolding spelled_command deleting_or_asking
spelled_command-takes text c e =
    if_read {P = (text ≡ command_text c) × IsCommand c} (begins (codes "put ") text) (assigning Put (spelled_assigned (drop 4 text))) _ c e (assigning_takes Put (codes "put ") text c put_text (λ p x w is. is))
    (λ e. if_read {P = (text ≡ command_text c) × IsCommand c} (begins (codes "create ") text) (assigning Create (spelled_assigned (drop 7 text))) _ c e (assigning_takes Create (codes "create ") text c create_text (λ p x w is. is))
    (λ e. if_read {P = (text ≡ command_text c) × IsCommand c} (begins (codes "update ") text) (assigning Update (spelled_assigned (drop 7 text))) _ c e (assigning_takes Update (codes "update ") text c update_text (λ p x w is. is))
    (λ e. if_read {P = (text ≡ command_text c) × IsCommand c} (begins (codes "cas ") text) (spelled_cas (drop 4 text)) _ c e (λ is h. let t = cas_takes (drop 4 text) c h in (word_takes (codes "cas ") text is ∙ t.0, t.1))
    (λ e. if_read {P = (text ≡ command_text c) × IsCommand c} (begins (codes "clear ") text) (naming Clear (spelled_path (drop 6 text))) _ c e (naming_takes Clear (codes "clear ") text c clear_text (λ p is. is))
    (λ e. if_read {P = (text ≡ command_text c) × IsCommand c} (begins (codes "del ") text) (naming Del (spelled_path (drop 4 text))) _ c e (naming_takes Del (codes "del ") text c del_text (λ p is. is))
    (λ e. if_read {P = (text ≡ command_text c) × IsCommand c} (begins (codes "delmany ") text) (scanning Delmany (spelled_pattern (drop 8 text))) _ c e (scanning_takes Delmany (codes "delmany ") text c delmany_text (λ parts is. is))
    (λ e. if_read {P = (text ≡ command_text c) × IsCommand c} (begins (codes "get ") text) (naming Get (spelled_path (drop 4 text))) _ c e (naming_takes Get (codes "get ") text c get_text (λ p is. is))
    (λ e. if_read {P = (text ≡ command_text c) × IsCommand c} (begins (codes "many ") text) (spelled_many (drop 5 text)) _ c e (λ is h. let t = many_command-takes (drop 5 text) c h in (word_takes (codes "many ") text is ∙ t.0, t.1))
    (λ e. if_read {P = (text ≡ command_text c) × IsCommand c} (begins (codes "count ") text) (scanning Count (spelled_pattern (drop 6 text))) _ c e (scanning_takes Count (codes "count ") text c count_text (λ parts is. is))
    (λ e. running_takes text c e))))))))))

-- what is spelled as a command is read again
pub spelled_command-again : (c : Command) → IsCommand c → spelled_command (command_text c) ≡ Some c
unfolding spelled_command deleting_or_asking running command_text
spelled_command-again (Put p x w) is = ap (assigning Put) (spelled_assigned-again p x w is.0 is.1 is.2)
spelled_command-again (Create p x w) is = ap (assigning Create) (spelled_assigned-again p x w is.0 is.1 is.2)
spelled_command-again (Update p x w) is = ap (assigning Update) (spelled_assigned-again p x w is.0 is.1 is.2)
spelled_command-again (Cas p v x w) is = cas_again p v x w is.0 is.1 is.2 is.3
spelled_command-again (Clear p) is = ap (naming Clear) (spelled_path-again p is)
spelled_command-again (Del p) is = ap (naming Del) (spelled_path-again p is)
spelled_command-again (Delmany parts) is = ap (scanning Delmany) (spelled_pattern-again parts is)
spelled_command-again (Get p) is = ap (naming Get) (spelled_path-again p is)
spelled_command-again (Many parts limit) is = many_command-again parts limit is.0 is.1 is.2
spelled_command-again (Count parts) is = ap (scanning Count) (spelled_pattern-again parts is)
spelled_command-again (Tx args s) is = tx_again args s is.0 is.1
spelled_command-again (Run p args) is = run_again p args is.0 is.1

-- ---- input lines

asked_is : (k : ℕ) (o : Option Command) (l : Line) → asked k o ≡ Some l → (c : Command) × (o ≡ Some c) × (line.Command k c ≡ l)
asked_is k None l e = absurd cc
asked_is k (Some c) l e = (c, refl, some_is (line.Command k c) l e)

-- a digit from 1 to 9
pub digit_is : (d : ℕ) → leb 49 d ≡ true → leb d 57 ≡ true → (d ∷ [] ≡ decimal (d - 48)) × IsNode (d - 48)
digit_is d low high =
    let a : 49 ≤ d = grind (arith, nat_tests) in
    let b : d ≤ 57 = grind (arith, nat_tests) in
    let is : 48 + (d - 48) ≡ d = omega arith in
    (ap (λ (n : ℕ). n ∷ []) (sym is) ∙ sym (decimal_digit (d - 48) (omega arith)), (omega arith, omega arith))

-- what is read as a line has a spelling, and is spelled so
pub line_at-takes : (text : List ℕ) (l : Line) → line_at text ≡ Some l → (text ≡ line_text l) × IsLine l
unfolding line_at line_text
line_at-takes [] l e = absurd cc
line_at-takes (a ∷ []) l e = absurd cc
line_at-takes (a ∷ d ∷ []) l e = absurd cc
line_at-takes (a ∷ d ∷ s ∷ text) l e =
    let g = guard_some (eqb a 64 && leb 49 d && leb d 57 && eqb s 32) (asked (d - 48) (spelled_command text)) l e in
    let t = and_true (eqb a 64 && leb 49 d && leb d 57) (eqb s 32) g.0 in
    let u = and_true (eqb a 64 && leb 49 d) (leb d 57) t.0 in
    let v = and_true (eqb a 64) (leb 49 d) u.0 in
    let k = digit_is d v.1 u.1 in
    let c = asked_is (d - 48) (spelled_command text) l g.1 in
    let r = spelled_command-takes text c.0 c.1 in
    let head : a ∷ d ∷ s ∷ text ≡ 64 ∷ d ∷ 32 ∷ text = λ i. eqb-true a 64 v.0 i ∷ d ∷ eqb-true s 32 t.1 i ∷ text in
    subst (λ (m : Line). (a ∷ d ∷ s ∷ text ≡ line_text m) × IsLine m) c.2
    (head ∙ (ap (λ (n : List ℕ). 64 ∷ (n ++ 32 ∷ text)) k.0 ∙ ap (λ (n : List ℕ). 64 ∷ (decimal (d - 48) ++ 32 ∷ n)) r.0), (k.1, r.1))

line_read : (d : ℕ) (text : List ℕ) → 49 ≤ d → d ≤ 57 → line_at (64 ∷ d ∷ 32 ∷ text) ≡ asked (d - 48) (spelled_command text)
unfolding line_at
line_read d text low high =
    ap (λ (t : Bool). cond (t && leb d 57 && true) (asked (d - 48) (spelled_command text)) None) (le-leb 49 d low)
    ∙ ap (λ (t : Bool). cond (t && true) (asked (d - 48) (spelled_command text)) None) (le-leb d 57 high)

-- what is spelled as a line is read again
pub line_at-again : (l : Line) → IsLine l → line_at (line_text l) ≡ Some l
unfolding line_text
line_at-again (line.Command k c) is =
    let digit : decimal k ≡ (48 + k) ∷ [] = decimal_digit k (omega (arith, is.0.1)) in
    let back : 48 + k - 48 ≡ k = omega arith in
    ap (λ (n : List ℕ). line_at (64 ∷ (n ++ 32 ∷ command_text c))) digit
    ∙ (line_read (48 + k) (command_text c) (omega (arith, is.0.0)) (omega (arith, is.0.1))
    ∙ (ap (λ (n : ℕ). asked n (spelled_command (command_text c))) back ∙ ap (asked k) (spelled_command-again c is.1)))
