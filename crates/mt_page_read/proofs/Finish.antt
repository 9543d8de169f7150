-- What the public contracts say, from the machine.
use Rattle.std.proofs.Common.{◌≡◌, ℕ, ◌+◌, ◌-◌, ◌<◌, ◌≤◌, Bool, List, [], ◌∷◌, ◌++◌, length, Option, Some, None, Result, Ok, Err, IfOk, refl, sym, ap, ◌∙◌, subst, append_assoc, arith}
use Rattle.std.proofs.lemmas.List.{append-nil, length-append}
use Rattle.mt_tree.specs.Limits.{body_limit}
use Rattle.mt_page_tokens.specs.declared.refusal.ReadRefusal.{ReadRefusal}
use Rattle.mt_page_tokens.specs.declared.refusal.ReadRefusal.TheVariants.{NotPage}
use Rattle.mt_page_tokens.specs.Limits.{IsPage}
use Rattle.mt_page_tokens.specs.Reading.{Gives}
use Rattle.mt_page_tokens.specs.Tokens.{Page, text_of}
use Rattle.mt_page_read.specs.declared.machine.Machine.{Machine}
use Rattle.mt_page_read.specs.declared.reader.PageReader.{PageReader}
use Rattle.mt_page_read.specs.Fed.{BeginsNone, HasRead, HasReadBy}
use Rattle.mt_page_read.specs.Held.{held_of, tokens_of}
use Rattle.mt_page_read.proofs.Held.{held_is}
use Rattle.mt_page_read.specs.Machine.{finished, run, start}
use Rattle.mt_page_read.specs.Over.{IsOver}
use Rattle.mt_page_read.proofs.Complete.{only}
use Rattle.mt_page_read.proofs.Nodes.{text_is, whole_text}
use Rattle.mt_page_read.proofs.Over.{no_longer, over_begins_none}
use Rattle.mt_page_read.proofs.Runs.{run-append}
use Rattle.mt_page_read.proofs.Sound.{found}

-- ---- the laws on texts

some_same : (p q : Page) → Some p ≡ Some q → p ≡ q
some_same p q e = cc

pub same_page : (whole : Bool) (p q : Page) → IsPage whole p → IsPage whole q → text_of whole p ≡ text_of whole q → p ≡ q
same_page whole p q a b e =
    let same : whole_text whole p ≡ whole_text whole q = sym (text_is whole p) ∙ e ∙ text_is whole q in
    some_same p q (sym (only whole p a.tree) ∙ ap (λ ys. finished (run ys (start whole))) same ∙ only whole q b.tree)

pub no_beginning : (whole : Bool) (p q : Page) (b : ℕ) (more : List ℕ) → IsPage whole p → IsPage whole q → text_of whole p ++ b ∷ more ≡ text_of whole q → ⊥
no_beginning whole p q b more h k e = no_longer whole p q b more h.tree k.tree (ap (λ (ys : List ℕ). ys ++ b ∷ more) (sym (text_is whole p)) ∙ e ∙ text_is whole q)

-- ---- what was fed

pub by_machine : (whole : Bool) (fed : List ℕ) (reader : PageReader) (machine : Option Machine) → reader.machine ≡ machine → HasRead whole fed reader → HasReadBy whole fed reader.left machine
unfolding HasRead
by_machine whole fed reader machine is h = subst (λ m. HasReadBy whole fed reader.left m) is h

pub of_machine : (whole : Bool) (fed : List ℕ) (reader : PageReader) (machine : Option Machine) → reader.machine ≡ machine → HasReadBy whole fed reader.left machine → HasRead whole fed reader
unfolding HasRead
of_machine whole fed reader machine is h = subst (λ m. HasReadBy whole fed reader.left m) (sym is) h

pub begins_more : (whole : Bool) (fed piece : List ℕ) → BeginsNone whole fed → BeginsNone whole (fed ++ piece)
begins_more whole fed piece none page more h e = none page (piece ++ more) h (e ∙ append_assoc fed piece more)

too_many : (whole : Bool) (fed piece : List ℕ) (left : ℕ) → length fed + left ≡ body_limit → left < length piece → BeginsNone whole (fed ++ piece)
too_many whole fed piece left l m page more h e = absurd (omega (arith, h.short, l, m, ap length e, length-append (fed ++ piece) more, length-append fed piece))

over_none : (whole : Bool) (fed : List ℕ) → IsOver (run fed (start whole)) → BeginsNone whole fed
over_none whole fed over page more h e = over_begins_none whole fed more page over h.tree (sym (text_is whole page) ∙ e)

-- the piece is too long
past : (whole : Bool) (fed piece : List ℕ) (left : ℕ) (machine : Option Machine) → left < length piece → HasReadBy whole fed left machine → BeginsNone whole (fed ++ piece)
past whole fed piece left None m h = begins_more whole fed piece h
past whole fed piece left (Some machine) m h = too_many whole fed piece left h.1 m

pub fed_past : (whole : Bool) (fed piece : List ℕ) (old new : PageReader) → old.left < length piece → new.machine ≡ None → HasRead whole fed old → HasRead whole (fed ++ piece) new
fed_past whole fed piece old new m is h = of_machine whole (fed ++ piece) new None is (past whole fed piece old.left old.machine m (by_machine whole fed old old.machine refl h))

-- the machine took the piece
pub fed_more : (whole : Bool) (fed piece : List ℕ) (old new : PageReader) (before after : Machine) → length piece ≤ old.left → after ≡ run piece before → old.machine ≡ Some before → new.machine ≡ Some after
    → new.left ≡ old.left - length piece → HasRead whole fed old → HasRead whole (fed ++ piece) new
fed_more whole fed piece old new before after le is was now left h =
    let k = by_machine whole fed old (Some before) was h in
    of_machine whole (fed ++ piece) new (Some after) now
    (is ∙ ap (run piece) k.0 ∙ sym (run-append fed piece (start whole)), omega (arith, le, left, k.1, length-append fed piece))

-- there is none
pub fed_none : (whole : Bool) (fed piece : List ℕ) (old new : PageReader) → old.machine ≡ None → new.machine ≡ None → HasRead whole fed old → HasRead whole (fed ++ piece) new
fed_none whole fed piece old new was now h = of_machine whole (fed ++ piece) new None now (begins_more whole fed piece (by_machine whole fed old None was h))

-- it is over
pub over_begins : (whole : Bool) (fed : List ℕ) (reader : PageReader) (machine : Machine) → reader.machine ≡ Some machine → IsOver machine → HasRead whole fed reader → BeginsNone whole fed
over_begins whole fed reader machine is over h = over_none whole fed (subst IsOver (by_machine whole fed reader (Some machine) is h).0 over)

pub fed_over : (whole : Bool) (fed : List ℕ) (reader : PageReader) → reader.machine ≡ None → BeginsNone whole fed → HasRead whole fed reader
fed_over whole fed reader is none = of_machine whole fed reader None is none

-- ---- what is held

pub held_as : (whole : Bool) (fed more : List ℕ) (page : Page) (reader : PageReader) (machine : Machine) → reader.machine ≡ Some machine → HasRead whole fed reader → IsPage whole page → text_of whole page ≡ fed ++ more
    → machine.held ≡ held_of (tokens_of whole page) fed
held_as whole fed more page reader machine is h p e = ap (λ (x : Machine). x.held) (by_machine whole fed reader (Some machine) is h).0 ∙ held_is whole fed more page p.tree (sym (text_is whole page) ∙ e)

pub none_held : (whole : Bool) (fed more held : List ℕ) (page : Page) (reader : PageReader) → reader.machine ≡ None → HasRead whole fed reader → IsPage whole page → text_of whole page ≡ fed ++ more
    → held ≡ held_of (tokens_of whole page) fed
none_held whole fed more held page reader is h p e = absurd (by_machine whole fed reader None is h page more p e)

-- ---- the end

pub finish_found : (result : Result Page ReadRefusal) (reader : PageReader) (machine : Machine) → reader.machine ≡ Some machine → Gives (λ page. page) result (finished machine)
    → IfOk result (λ page. (whole : Bool) (fed : List ℕ) → HasRead whole fed reader → IsPage whole page × (text_of whole page ≡ fed))
finish_found (Ok page) reader machine m g = λ whole fed h.
    let k = by_machine whole fed reader (Some machine) m h in
    let is = found whole fed page (ap finished (sym k.0) ∙ g) in
    let text : text_of whole page ≡ fed = text_is whole page ∙ is.1 in
    (record { tree = is.0; short = omega (arith, k.1, ap length text) }, text)
finish_found (Err e) reader machine m g = tt

pub finish_only : (result : Result Page ReadRefusal) (reader : PageReader) (machine : Machine) → reader.machine ≡ Some machine → Gives (λ page. page) result (finished machine) → result ≡ Err NotPage
    → (whole : Bool) (fed : List ℕ) (page : Page) → HasRead whole fed reader → IsPage whole page → text_of whole page ≡ fed → ⊥
finish_only (Ok page) reader machine m g e = absurd cc
finish_only (Err NotPage) reader machine m g e = λ whole fed page h p t.
    let k = by_machine whole fed reader (Some machine) m h in
    let some : finished machine ≡ Some page = ap finished (k.0 ∙ ap (λ ys. run ys (start whole)) (sym t ∙ text_is whole page)) ∙ only whole page p.tree in
    let none : finished machine ≡ None = g in
    cc
finish_only (Err _) reader machine m g e = absurd cc

pub nothing_finished : (whole : Bool) (fed : List ℕ) (page : Page) (reader : PageReader) → reader.machine ≡ None → HasRead whole fed reader → IsPage whole page → text_of whole page ≡ fed → ⊥
nothing_finished whole fed page reader m h p t = by_machine whole fed reader None m h page [] p (t ∙ sym (append-nil fed))
