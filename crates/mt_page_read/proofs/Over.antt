-- Behind a whole page, no byte more makes a page.
use Rattle.std.proofs.Common.{◌≡◌, ℕ, Bool, true, false, ◌==◌, List, [], ◌∷◌, ◌++◌, Option, Some, None, if◌then◌else◌, refl, sym, ap, ◌∙◌, subst, codes}
use Rattle.std.specs.List.{starts_with}
use Rattle.std.specs.Str.{bytes_eq}
use Rattle.mt_page_read.specs.declared.tree.Frame.{Frame}
use Rattle.mt_page_read.specs.declared.tree.Stage.{Stage}
use Rattle.mt_page_read.specs.declared.tree.Stage.TheVariants as stage
use Rattle.mt_page_read.specs.declared.tree.Growing.{Growing}
use Rattle.mt_page_tokens.specs.declared.tokens.Opening.{Opening}
use Rattle.mt_page_read.specs.declared.machine.Mode.{Mode}
use Rattle.mt_page_read.specs.declared.machine.Mode.TheVariants as mode
use Rattle.mt_page_read.specs.declared.machine.Machine.{Machine}
use Rattle.mt_page_tokens.specs.Tokens.{Page}
use Rattle.mt_page_read.specs.Over.{IsOver, Over}
use Rattle.mt_page_tokens.specs.Limits.{IsTree}
use Rattle.mt_page_tokens.specs.Reading.{opening_at, words_at, script_at}
use Rattle.mt_page_read.specs.Machine.{growing, refused, grown, opened, closed, tagged, worded, scripted, child_by, words_of, script_of, reader, after, step, run, start, finished, finished_by}
use Rattle.mt_page_read.proofs.Runs.{run-append}
use Rattle.mt_page_read.proofs.Steps.{step_is, nothing_worded}
use Rattle.mt_page_read.proofs.Complete.{only, page_read}
use Rattle.mt_page_read.proofs.Nodes.{whole_text}

-- the root is there, or the bytes are refused
abbrev Rooted : Stage → List Frame → Type 0
Rooted stage.Refused fs = fs ≡ []
Rooted (stage.Done page) fs = fs ≡ []
Rooted _ fs = ⊥

child_refused : (o : Option Page) (s : Stage) (fs : List Frame) → Rooted s fs → child_by o (growing s fs) ≡ refused
unfolding grown
child_refused None s fs h = refl
child_refused (Some page) stage.Refused [] h = refl
child_refused (Some page) stage.Refused (f ∷ fs) h = absurd cc
child_refused (Some page) (stage.Done root) [] h = refl
child_refused (Some page) (stage.Done root) (f ∷ fs) h = absurd cc
child_refused (Some page) stage.Root fs h = absurd h
child_refused (Some page) stage.Doctype fs h = absurd h

opened_refused : (o : Option Opening) (s : Stage) (fs : List Frame) → Rooted s fs → opened o (growing s fs) ≡ refused
unfolding opened
opened_refused None s fs h = refl
opened_refused (Some o) stage.Refused fs h = refl
opened_refused (Some o) (stage.Done root) fs h = refl
opened_refused (Some o) stage.Root fs h = absurd h
opened_refused (Some o) stage.Doctype fs h = absurd h

closed_refused : (bytes : List ℕ) (s : Stage) (fs : List Frame) → Rooted s fs → closed bytes (growing s fs) ≡ refused
unfolding closed
closed_refused bytes s [] h = refl
closed_refused bytes stage.Refused (f ∷ fs) h = absurd cc
closed_refused bytes (stage.Done root) (f ∷ fs) h = absurd cc
closed_refused bytes stage.Root (f ∷ fs) h = absurd h
closed_refused bytes stage.Doctype (f ∷ fs) h = absurd h

by_slash : (b : Bool) (bytes : List ℕ) (s : Stage) (fs : List Frame) → Rooted s fs → (if b then closed bytes (growing s fs) else opened (opening_at bytes) (growing s fs)) ≡ refused
by_slash true bytes s fs h = closed_refused bytes s fs h
by_slash false bytes s fs h = opened_refused (opening_at bytes) s fs h

tagged_refused : (bytes : List ℕ) (s : Stage) (fs : List Frame) → Rooted s fs → tagged bytes (growing s fs) ≡ refused
unfolding tagged
tagged_refused bytes stage.Refused fs h = by_slash (starts_with (λ x y. x == y) bytes (60 ∷ 47 ∷ [])) bytes stage.Refused fs h
tagged_refused bytes (stage.Done root) fs h = by_slash (starts_with (λ x y. x == y) bytes (60 ∷ 47 ∷ [])) bytes (stage.Done root) fs h
tagged_refused bytes stage.Root fs h = absurd h
tagged_refused bytes stage.Doctype fs h = absurd h

scripted_refused : (bytes : List ℕ) (s : Stage) (fs : List Frame) → Rooted s fs → scripted bytes (growing s fs) ≡ refused
unfolding scripted
scripted_refused bytes s fs h = child_refused (script_of (script_at bytes)) s fs h

worded_refused : (b : ℕ) (bytes : List ℕ) (s : Stage) (fs : List Frame) → Rooted s fs → worded (b ∷ bytes) (growing s fs) ≡ refused
unfolding worded
worded_refused b bytes s fs h = child_refused (words_of (words_at (b ∷ bytes))) s fs h

nonempty : (xs : List ℕ) (b : ℕ) → xs ++ b ∷ [] ≡ [] → ⊥
nonempty [] b e = cc
nonempty (x ∷ xs) b e = cc

-- with bytes held the root is as good as gone
holds : (s : Stage) (fs : List Frame) (held : List ℕ) → Rooted s fs → (held ≡ [] → ⊥) → Over s fs held
holds stage.Refused fs held h n = h
holds (stage.Done page) fs held h n = (h, n)
holds stage.Root fs held h n = h
holds stage.Doctype fs held h n = h

rooted : (s : Stage) (fs : List Frame) (held : List ℕ) → Over s fs held → Rooted s fs
rooted stage.Refused fs held h = h
rooted (stage.Done page) fs held h = h.0
rooted stage.Root fs held h = h
rooted stage.Doctype fs held h = h

gone : (m : Mode) (held : List ℕ) (g : Growing) → g ≡ refused → IsOver (reader m held g)
gone m held g e = subst (λ x. IsOver (reader m held x)) (sym e) refl

module _ (b : ℕ) (held : List ℕ) (s : Stage) (fs : List Frame) (h : Rooted s fs) where
  stays : (m : Mode) → IsOver (reader m (held ++ b ∷ []) (growing s fs))
  stays m = holds s fs (held ++ b ∷ []) h (nonempty held b)

  after_over : (m : Mode) → IsOver (after b m held (growing s fs))
  after_over mode.Words = by (b == 60) where
    words : (bytes : List ℕ) → IsOver (reader mode.Tag (b ∷ []) (worded bytes (growing s fs)))
    words [] = nothing s fs h where
      nothing : (t : Stage) (gs : List Frame) → Rooted t gs → IsOver (reader mode.Tag (b ∷ []) (worded [] (growing t gs)))
      nothing t gs k = subst (λ g. IsOver (reader mode.Tag (b ∷ []) g)) (sym (nothing_worded (growing t gs))) (holds t gs (b ∷ []) k (nonempty [] b))
    words (c ∷ bytes) = gone mode.Tag (b ∷ []) (worded (c ∷ bytes) (growing s fs)) (worded_refused c bytes s fs h)

    by : (x : Bool) → IsOver (if x then reader mode.Tag (b ∷ []) (worded held (growing s fs)) else reader mode.Words (held ++ b ∷ []) (growing s fs))
    by true = words held
    by false = stays mode.Words
  after_over mode.Tag = by (b == 62) (bytes_eq (codes "<script") held) where
    by : (x y : Bool) → IsOver (if x then (if y then reader mode.Script (held ++ b ∷ []) (growing s fs) else reader mode.Words [] (tagged held (growing s fs))) else reader mode.Tag (held ++ b ∷ []) (growing s fs))
    by true true = stays mode.Script
    by true false = gone mode.Words [] (tagged held (growing s fs)) (tagged_refused held s fs h)
    by false y = stays mode.Tag
  after_over mode.Script = stays (if b == 60 then mode.Less else mode.Script)
  after_over mode.Less = stays (if b == 47 then mode.Slash else (if b == 60 then mode.Less else mode.Script))
  after_over mode.Slash = by (b == 62) where
    by : (x : Bool) → IsOver (if x then reader mode.Words [] (scripted held (growing s fs)) else reader mode.Slash (held ++ b ∷ []) (growing s fs))
    by true = gone mode.Words [] (scripted held (growing s fs)) (scripted_refused held s fs h)
    by false = stays mode.Slash

step_over : (b : ℕ) (r : Machine) → Rooted r.tree.stage r.tree.frames → IsOver (step b r)
step_over b r h = subst IsOver (sym (step_is b r)) (after_over b r.held r.tree.stage r.tree.frames h r.mode)

run_over : (bytes : List ℕ) (r : Machine) → IsOver r → IsOver (run bytes r)
run_over [] r h = h
run_over (b ∷ bytes) r h = run_over bytes (step b r) (step_over b r (rooted r.tree.stage r.tree.frames r.held h))

none_there : (s : Stage) (fs : List Frame) (held : List ℕ) → Over s fs held → finished_by s held ≡ None
none_there stage.Refused fs held h = refl
none_there (stage.Done page) fs [] h = absurd (h.1 refl)
none_there (stage.Done page) fs (b ∷ held) h = refl
none_there stage.Root fs held h = absurd h
none_there stage.Doctype fs held h = absurd h

-- a whole text with a byte more is not over by itself, but nothing begins with it
pub no_longer : (whole : Bool) (p q : Page) (b : ℕ) (more : List ℕ) → IsTree p → IsTree q → whole_text whole p ++ b ∷ more ≡ whole_text whole q → ⊥
no_longer whole p q b more h k e =
    let there = reader mode.Words [] (growing (stage.Done p) []) in
    let runs : run (whole_text whole p ++ b ∷ more) (start whole) ≡ run more (step b there) = run-append (whole_text whole p) (b ∷ more) (start whole) ∙ ap (run (b ∷ more)) (page_read whole p h) in
    let over = run_over more (step b there) (step_over b there refl) in
    let r = run more (step b there) in
    let none : finished r ≡ None = none_there r.tree.stage r.tree.frames r.held over in
    let some : finished r ≡ Some q = ap finished (sym runs ∙ ap (λ ys. run ys (start whole)) e) ∙ only whole q k in
    cc

-- a reader that is over has read what nothing begins with
pub over_begins_none : (whole : Bool) (fed more : List ℕ) (page : Page) → IsOver (run fed (start whole)) → IsTree page → whole_text whole page ≡ fed ++ more → ⊥
over_begins_none whole fed more page over h e =
    let r = run more (run fed (start whole)) in
    let none : finished r ≡ None = none_there r.tree.stage r.tree.frames r.held (run_over more (run fed (start whole)) over) in
    let some : finished r ≡ Some page = ap finished (sym (run-append fed more (start whole)) ∙ ap (λ ys. run ys (start whole)) (sym e)) ∙ only whole page h in
    cc
