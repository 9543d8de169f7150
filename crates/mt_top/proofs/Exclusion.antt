-- A run ends as expected, or with a fault.
use Rattle.std.proofs.Common.{◌≡◌, ◌⊎◌, inl, inr, ◌≤◌, ◌<◌, ℕ, List, [], ◌∷◌, length, get_or, codes, Option, None, Some, IfSome, refl, sym, ap, ◌∙◌, arith, subst}
use Rattle.std.specs.Str.{chars}
use Rattle.mt_top.specs.declared.status.Status.{Status}
use Rattle.mt_top.specs.declared.status.Status.TheVariants.{Done, Refused, Usage, BadSchedule, FileFault, SinkFault, WireFault, NoMemory, TooLong, StartFailed, DoorFault}
use Rattle.mt_top.specs.Words.{Asked, check, start, replay, Asks}
use Rattle.mt_top.specs.Texts.{FilesSeen, IsRead, IsTooLong, Holds, HoldsMore, IsNotSmallText, IsNotScheduleText}
use Rattle.mt_source.specs.Sources.{IsAcceptedText, IsNotAcceptedText, IsSourceOf}
use Rattle.mt_start.specs.Starts.{Ending, StartsAs, started, failed, unbuilt}
use Rattle.mt_start.proofs.Starts.{one_ending, none_refused}
use Rattle.mt_top.specs.Meaning.{SinkSeen, WireSeen, IsUnstartedText, IsOneTooLong, BothRead, BothSpelled, StatusMeans, AskedMeans}
use Rattle.mt_top.specs.Expected.{BothHold, OneHoldsMore, ExpectedOf, Expected, IsFault}
use Rattle.mt_tree.specs.Limits.{source_limit}

-- words ask for one thing alone
asks_same : (words : List (List ℕ)) (x y : Asked) → Asks words x → Asks words y → x ≡ y
asks_same words (check a) (check b) p q = ap check (ap (λ (ws : List (List ℕ)). get_or ws 1 []) (sym p.0 ∙ q.0))
asks_same words (check a) (replay b t) p q =
    let e : length (codes "check" ∷ a ∷ []) ≡ length (codes "replay" ∷ b ∷ t ∷ []) = ap length (sym p.0 ∙ q.0) in absurd (omega (arith, e))
asks_same words (start a) (start b) p q = ap start (ap (λ (ws : List (List ℕ)). get_or ws 1 []) (sym p.0 ∙ q.0))
asks_same words (check a) (start b) p q = let e : ◌≡◌ {A = ℕ} 99 115 = ap (λ (ws : List (List ℕ)). get_or (get_or ws 0 []) 0 0) (sym p.0 ∙ q.0) in absurd (omega (arith, e))
asks_same words (start a) (check b) p q = let e : ◌≡◌ {A = ℕ} 115 99 = ap (λ (ws : List (List ℕ)). get_or (get_or ws 0 []) 0 0) (sym p.0 ∙ q.0) in absurd (omega (arith, e))
asks_same words (start a) (replay b t) p q =
    let e : length (codes "start" ∷ a ∷ []) ≡ length (codes "replay" ∷ b ∷ t ∷ []) = ap length (sym p.0 ∙ q.0) in absurd (omega (arith, e))
asks_same words (replay a s) (start b) p q =
    let e : length (codes "replay" ∷ a ∷ s ∷ []) ≡ length (codes "start" ∷ b ∷ []) = ap length (sym p.0 ∙ q.0) in absurd (omega (arith, e))
asks_same words (replay a s) (check b) p q =
    let e : length (codes "replay" ∷ a ∷ s ∷ []) ≡ length (codes "check" ∷ b ∷ []) = ap length (sym p.0 ∙ q.0) in absurd (omega (arith, e))
asks_same words (replay a s) (replay b t) p q =
    let first = ap (λ (ws : List (List ℕ)). get_or ws 1 []) (sym p.0 ∙ q.0) in
    let second = ap (λ (ws : List (List ℕ)). get_or ws 2 []) (sym p.0 ∙ q.0) in
    ap (λ (x : List ℕ). replay x s) first ∙ ap (replay b) second

abbrev or_else : Option (List ℕ) → List ℕ → List ℕ
or_else None default = default
or_else (Some x) default = x

some_same : (x y : List ℕ) → Some x ≡ Some y → x ≡ y
some_same x y e = ap (λ (o : Option (List ℕ)). or_else o []) e

-- what was read is what the file holds
told_same : (told : Option (List ℕ)) (bytes text : List ℕ) → IfSome told (λ x. bytes ≡ x) → told ≡ Some text → bytes ≡ text
told_same None bytes text read holds = absurd (cc)
told_same (Some x) bytes text read holds = read ∙ some_same x text holds

-- a file that is too long holds more than one that is not
not_longer : (told : Option (List ℕ)) (text : List ℕ) → IfSome told (λ x. source_limit < length x) → told ≡ Some text → length text ≤ source_limit → ⊥
not_longer None text long holds short = absurd (cc)
not_longer (Some x) text long holds short =
    let same : length x ≡ length text = ap length (some_same x text holds) in omega (arith, same)

not_shorter : (told : Option (List ℕ)) (bytes text : List ℕ) → IfSome told (λ x. bytes ≡ x) → length bytes ≤ source_limit → told ≡ Some text → source_limit < length text → ⊥
not_shorter told bytes text read short holds long =
    let same : length bytes ≡ length text = ap length (told_same told bytes text read holds) in omega (arith, same)

-- a file that was read whole holds no more
never_more : (files : FilesSeen) (name bytes : List ℕ) → IsRead files name bytes → HoldsMore files name → ⊥
never_more files name bytes read more = not_shorter (files.contents (chars name)) bytes more.0 read.0 read.1 more.1 more.2

-- a file that holds no more is not too long
never_long : (files : FilesSeen) (name text : List ℕ) → IsTooLong files name → Holds files name text → ⊥
never_long files name text long holds = not_longer (files.contents (chars name)) text long holds.0 holds.1

-- what both sides say of the same two texts
record Meet (P Q : List ℕ → List ℕ → Type 0) : Type 0 where
  application : List ℕ
  schedule : List ℕ
  one : P application schedule
  other : Q application schedule

meet : (files : FilesSeen) (a s : List ℕ) (P Q : List ℕ → List ℕ → Type 0) → BothHold files a s P → BothRead files a s Q → Meet P Q
meet files a s P Q h r =
    let application = told_same (files.contents (chars a)) r.application h.application r.application_read.0 h.application_holds.0 in
    let schedule = told_same (files.contents (chars s)) r.schedule h.schedule r.schedule_read.0 h.schedule_holds.0 in
    record {
      application = h.application;
      schedule = h.schedule;
      one = h.holds;
      other = subst (λ (x : List ℕ). Q x h.schedule) application (subst (λ (y : List ℕ). Q r.application y) schedule r.holds);
    }

neither_more : (files : FilesSeen) (a s : List ℕ) (Q : List ℕ → List ℕ → Type 0) → OneHoldsMore files a s → BothRead files a s Q → ⊥
neither_more files a s Q (inl more) r = never_more files a r.application r.application_read more
neither_more files a s Q (inr (text, holds, more)) r = never_more files s r.schedule r.schedule_read more

neither_long : (files : FilesSeen) (a s : List ℕ) (P : List ℕ → List ℕ → Type 0) → BothHold files a s P → IsOneTooLong files a s → ⊥
neither_long files a s P h (inl long) = never_long files a h.application long h.application_holds
neither_long files a s P h (inr (bytes, read, long)) = never_long files s h.schedule long h.schedule_holds

spelled_once : (application schedule : List ℕ) (P : _) → BothSpelled application schedule P → IsNotSmallText application → ⊥
spelled_once application schedule P is none = none is.small is.fits is.application_is

scheduled_once : (application schedule : List ℕ) (P : _) → BothSpelled application schedule P → IsNotScheduleText schedule → ⊥
scheduled_once application schedule P is none = none is.commands is.schedule_is

-- one text is not both
accepted_once : (files : FilesSeen) (name bytes text : List ℕ) → IsRead files name bytes → Holds files name text → IsAcceptedText text → IsNotAcceptedText bytes → ⊥
accepted_once files name bytes text read holds (program, is, unbroken) none =
    none program (subst (λ (x : List ℕ). IsSourceOf x program) (sym (told_same (files.contents (chars name)) bytes text read.0 holds.0)) is) unbroken

accepted_always : (files : FilesSeen) (name bytes text : List ℕ) → IsRead files name bytes → Holds files name text → IsAcceptedText bytes → IsNotAcceptedText text → ⊥
accepted_always files name bytes text read holds (program, is, unbroken) none =
    none program (subst (λ (x : List ℕ). IsSourceOf x program) (told_same (files.contents (chars name)) bytes text read.0 holds.0) is) unbroken

of_check : (files : FilesSeen) (sink : SinkSeen) (wire : WireSeen) (a : List ℕ) (e r : Status)
    → ExpectedOf files (check a) e → AskedMeans files sink wire (check a) r → (r ≡ e) ⊎ IsFault r
of_check files sink wire a e FileFault x m = inr tt
of_check files sink wire a e SinkFault x m = inr tt
of_check files sink wire a e NoMemory x m = inr tt
of_check files sink wire a e WireFault x m = absurd m
of_check files sink wire a e StartFailed x m = absurd m
of_check files sink wire a e DoorFault x m = absurd m
of_check files sink wire a e Usage x m = absurd m
of_check files sink wire a e BadSchedule x m = absurd m
of_check files sink wire a Done Done x m = inl refl
of_check files sink wire a Refused Refused x m = inl refl
of_check files sink wire a TooLong TooLong x m = inl refl
of_check files sink wire a TooLong Done x m = absurd (never_more files a m.0 m.1 x)
of_check files sink wire a TooLong Refused x m = absurd (never_more files a m.0 m.1 x)
of_check files sink wire a Done TooLong x m = absurd (never_long files a x.0 m.0 x.1)
of_check files sink wire a Refused TooLong x m = absurd (never_long files a x.0 m.0 x.1)
of_check files sink wire a Done Refused x m = absurd (accepted_once files a m.0 x.0 m.1 x.1 x.2 m.2)
of_check files sink wire a Refused Done x m = absurd (accepted_always files a m.0 x.0 m.1 x.1 m.2 x.2)
of_check files sink wire a Usage r x m = absurd x
of_check files sink wire a BadSchedule r x m = absurd x
of_check files sink wire a FileFault r x m = absurd x
of_check files sink wire a SinkFault r x m = absurd x
of_check files sink wire a WireFault r x m = absurd x
of_check files sink wire a NoMemory r x m = absurd x
of_check files sink wire a StartFailed r x m = absurd x
of_check files sink wire a DoorFault r x m = absurd x

-- one text has one ending
abbrev of_ending : {A : Type 0} → A → A → A → Ending → A
of_ending a b c (started log) = a
of_ending a b c (failed error) = b
of_ending a b c unbuilt = c

same_text : (files : FilesSeen) (name bytes text : List ℕ) (x : Ending) → IsRead files name bytes → Holds files name text → StartsAs bytes x → StartsAs text x
same_text files name bytes text x read holds is = subst (λ (t : List ℕ). StartsAs t x) (told_same (files.contents (chars name)) bytes text read.0 holds.0) is

same_unstarted : (files : FilesSeen) (name bytes text : List ℕ) → IsRead files name bytes → Holds files name text → IsUnstartedText bytes → IsUnstartedText text
same_unstarted files name bytes text read holds is = subst (λ (t : List ℕ). IsUnstartedText t) (told_same (files.contents (chars name)) bytes text read.0 holds.0) is

not_unstarted : (text : List ℕ) (x : Ending) → (x ≡ unbuilt → ⊥) → StartsAs text x → IsUnstartedText text → ⊥
not_unstarted text x other is (inl none) = none_refused text x is none
not_unstarted text x other is (inr built) = other (one_ending text x unbuilt is built)

started_not : (log : List ℕ) → started log ≡ unbuilt → ⊥
started_not log e = let n : ◌≡◌ {A = ℕ} 0 2 = ap (of_ending 0 1 2) e in absurd (omega (arith, n))

failed_not : (error : List ℕ) → failed error ≡ unbuilt → ⊥
failed_not error e = let n : ◌≡◌ {A = ℕ} 1 2 = ap (of_ending 0 1 2) e in absurd (omega (arith, n))

not_both : (text log error : List ℕ) → StartsAs text (started log) → StartsAs text (failed error) → ⊥
not_both text log error s f = let n : ◌≡◌ {A = ℕ} 0 1 = ap (of_ending 0 1 2) (one_ending text (started log) (failed error) s f) in omega (arith, n)

of_start : (files : FilesSeen) (sink : SinkSeen) (wire : WireSeen) (a : List ℕ) (e r : Status)
    → ExpectedOf files (start a) e → AskedMeans files sink wire (start a) r → (r ≡ e) ⊎ IsFault r
of_start files sink wire a e FileFault x m = inr tt
of_start files sink wire a e SinkFault x m = inr tt
of_start files sink wire a e NoMemory x m = inr tt
of_start files sink wire a e WireFault x m = absurd m
of_start files sink wire a e DoorFault x m = absurd m
of_start files sink wire a e Usage x m = absurd m
of_start files sink wire a e BadSchedule x m = absurd m
of_start files sink wire a Done Done x m = inl refl
of_start files sink wire a Refused Refused x m = inl refl
of_start files sink wire a StartFailed StartFailed x m = inl refl
of_start files sink wire a TooLong TooLong x m = inl refl
of_start files sink wire a TooLong Done x m = absurd (never_more files a m.0 m.1 x)
of_start files sink wire a TooLong Refused x m = absurd (never_more files a m.0 m.1 x)
of_start files sink wire a TooLong StartFailed x m = absurd (never_more files a m.0 m.1 x)
of_start files sink wire a Done TooLong x m = absurd (never_long files a x.0 m.0 x.1)
of_start files sink wire a Refused TooLong x m = absurd (never_long files a x.0 m.0 x.1)
of_start files sink wire a StartFailed TooLong x m = absurd (never_long files a x.0 m.0 x.1)
of_start files sink wire a Done Refused (text, holds, (log, is)) (bytes, read, (un, wrote)) =
    absurd (not_unstarted text (started log) (started_not log) is (same_unstarted files a bytes text read holds un))
of_start files sink wire a StartFailed Refused (text, holds, (error, is)) (bytes, read, (un, wrote)) =
    absurd (not_unstarted text (failed error) (failed_not error) is (same_unstarted files a bytes text read holds un))
of_start files sink wire a Refused Done (text, holds, un) (bytes, read, (log, is, wrote)) =
    absurd (not_unstarted text (started log) (started_not log) (same_text files a bytes text (started log) read holds is) un)
of_start files sink wire a Refused StartFailed (text, holds, un) (bytes, read, (error, is, wrote)) =
    absurd (not_unstarted text (failed error) (failed_not error) (same_text files a bytes text (failed error) read holds is) un)
of_start files sink wire a Done StartFailed (text, holds, (log, is)) (bytes, read, (error, fails, wrote)) =
    absurd (not_both text log error is (same_text files a bytes text (failed error) read holds fails))
of_start files sink wire a StartFailed Done (text, holds, (error, fails)) (bytes, read, (log, is, wrote)) =
    absurd (not_both text log error (same_text files a bytes text (started log) read holds is) fails)
of_start files sink wire a Usage r x m = absurd x
of_start files sink wire a BadSchedule r x m = absurd x
of_start files sink wire a FileFault r x m = absurd x
of_start files sink wire a SinkFault r x m = absurd x
of_start files sink wire a WireFault r x m = absurd x
of_start files sink wire a NoMemory r x m = absurd x
of_start files sink wire a DoorFault r x m = absurd x

of_replay : (files : FilesSeen) (sink : SinkSeen) (wire : WireSeen) (a s : List ℕ) (e r : Status)
    → ExpectedOf files (replay a s) e → AskedMeans files sink wire (replay a s) r → (r ≡ e) ⊎ IsFault r
of_replay files sink wire a s e FileFault x m = inr tt
of_replay files sink wire a s e SinkFault x m = inr tt
of_replay files sink wire a s e WireFault x m = inr tt
of_replay files sink wire a s e NoMemory x m = inr tt
of_replay files sink wire a s e StartFailed x m = absurd m
of_replay files sink wire a s e DoorFault x m = absurd m
of_replay files sink wire a s e Usage x m = absurd m
of_replay files sink wire a s TooLong TooLong x m = inl refl
of_replay files sink wire a s Refused Refused x m = inl refl
of_replay files sink wire a s BadSchedule BadSchedule x m = inl refl
of_replay files sink wire a s Done Done x m = inl refl
of_replay files sink wire a s TooLong Refused x m = absurd (neither_more files a s _ x m)
of_replay files sink wire a s TooLong BadSchedule x m = absurd (neither_more files a s _ x m)
of_replay files sink wire a s TooLong Done x m = absurd (neither_more files a s _ x m)
of_replay files sink wire a s Refused TooLong x m = absurd (neither_long files a s _ x m.0)
of_replay files sink wire a s BadSchedule TooLong x m = absurd (neither_long files a s _ x m.0)
of_replay files sink wire a s Done TooLong x m = absurd (neither_long files a s _ x m.0)
of_replay files sink wire a s Refused BadSchedule x m = absurd (let both = meet files a s _ _ x m in both.one both.other.0.0 both.other.0.1 both.other.0.2)
of_replay files sink wire a s Refused Done x m = absurd (let both = meet files a s _ _ x m in spelled_once _ _ _ both.other both.one)
of_replay files sink wire a s BadSchedule Refused x m = absurd (let both = meet files a s _ _ x m in both.other.0 both.one.0.0 both.one.0.1 both.one.0.2)
of_replay files sink wire a s BadSchedule Done x m = absurd (let both = meet files a s _ _ x m in scheduled_once _ _ _ both.other both.one.1)
of_replay files sink wire a s Done Refused x m = absurd (let both = meet files a s _ _ x m in both.other.0 both.one.0.0 both.one.0.1 both.one.0.2)
of_replay files sink wire a s Done BadSchedule x m = absurd (let both = meet files a s _ _ x m in both.other.1 both.one.1.0 both.one.1.1)
of_replay files sink wire a s Usage r x m = absurd x
of_replay files sink wire a s FileFault r x m = absurd x
of_replay files sink wire a s SinkFault r x m = absurd x
of_replay files sink wire a s WireFault r x m = absurd x
of_replay files sink wire a s NoMemory r x m = absurd x
of_replay files sink wire a s StartFailed r x m = absurd x
of_replay files sink wire a s DoorFault r x m = absurd x

of_asked : (files : FilesSeen) (sink : SinkSeen) (wire : WireSeen) (asked : Asked) (e r : Status)
    → ExpectedOf files asked e → AskedMeans files sink wire asked r → (r ≡ e) ⊎ IsFault r
of_asked files sink wire (check a) e r x m = of_check files sink wire a e r x m
of_asked files sink wire (start a) e r x m = of_start files sink wire a e r x m
of_asked files sink wire (replay a s) e r x m = of_replay files sink wire a s e r x m

abbrev AsksFor : (Asked → Type 0) → List (List ℕ) → Type 0
AsksFor P words = (asked : Asked) × Asks words asked × P asked

of_words : (files : FilesSeen) (sink : SinkSeen) (wire : WireSeen) (words : List (List ℕ)) (e r : Status)
    → AsksFor (λ asked. ExpectedOf files asked e) words → AsksFor (λ asked. AskedMeans files sink wire asked r) words → (r ≡ e) ⊎ IsFault r
of_words files sink wire words e r (x, asks_x, expected) (y, asks_y, means) =
    of_asked files sink wire y e r (subst (λ (a : Asked). ExpectedOf files a e) (asks_same words x y asks_x asks_y) expected) means

nothing : (words : List (List ℕ)) (P : Asked → Type 0) → ((asked : Asked) → Asks words asked → ⊥) → AsksFor P words → ⊥
nothing words P none (asked, asks, holds) = none asked asks

pub ends_as_expected : (files : FilesSeen) (sink : SinkSeen) (wire : WireSeen) (words : List (List ℕ)) (e r : Status)
    → Expected files words e → StatusMeans files sink wire words r → (r ≡ e) ⊎ IsFault r
ends_as_expected files sink wire words e SinkFault x m = inr tt
ends_as_expected files sink wire words e NoMemory x m = inr tt
ends_as_expected files sink wire words e FileFault x m = inr tt
ends_as_expected files sink wire words e WireFault x m = inr tt
ends_as_expected files sink wire words Usage Usage x m = inl refl
ends_as_expected files sink wire words Usage Done x m = absurd (nothing words (λ a. AskedMeans files sink wire a Done) x m)
ends_as_expected files sink wire words Usage Refused x m = absurd (nothing words (λ a. AskedMeans files sink wire a Refused) x m)
ends_as_expected files sink wire words Usage BadSchedule x m = absurd (nothing words (λ a. AskedMeans files sink wire a BadSchedule) x m)
ends_as_expected files sink wire words Usage TooLong x m = absurd (nothing words (λ a. AskedMeans files sink wire a TooLong) x m)
ends_as_expected files sink wire words Usage StartFailed x m = absurd (nothing words (λ a. AskedMeans files sink wire a StartFailed) x m)
ends_as_expected files sink wire words Usage DoorFault x m = absurd (nothing words (λ a. AskedMeans files sink wire a DoorFault) x m)
ends_as_expected files sink wire words Done Usage x m = absurd (nothing words (λ a. ExpectedOf files a Done) m.0 x)
ends_as_expected files sink wire words Refused Usage x m = absurd (nothing words (λ a. ExpectedOf files a Refused) m.0 x)
ends_as_expected files sink wire words BadSchedule Usage x m = absurd (nothing words (λ a. ExpectedOf files a BadSchedule) m.0 x)
ends_as_expected files sink wire words TooLong Usage x m = absurd (nothing words (λ a. ExpectedOf files a TooLong) m.0 x)
ends_as_expected files sink wire words FileFault Usage x m = absurd (nothing words (λ a. ExpectedOf files a FileFault) m.0 x)
ends_as_expected files sink wire words SinkFault Usage x m = absurd (nothing words (λ a. ExpectedOf files a SinkFault) m.0 x)
ends_as_expected files sink wire words WireFault Usage x m = absurd (nothing words (λ a. ExpectedOf files a WireFault) m.0 x)
ends_as_expected files sink wire words NoMemory Usage x m = absurd (nothing words (λ a. ExpectedOf files a NoMemory) m.0 x)
ends_as_expected files sink wire words StartFailed Usage x m = absurd (nothing words (λ a. ExpectedOf files a StartFailed) m.0 x)
ends_as_expected files sink wire words DoorFault Usage x m = absurd (nothing words (λ a. ExpectedOf files a DoorFault) m.0 x)
ends_as_expected files sink wire words Done Done x m = of_words files sink wire words Done Done x m
ends_as_expected files sink wire words Done Refused x m = of_words files sink wire words Done Refused x m
ends_as_expected files sink wire words Done BadSchedule x m = of_words files sink wire words Done BadSchedule x m
ends_as_expected files sink wire words Done TooLong x m = of_words files sink wire words Done TooLong x m
ends_as_expected files sink wire words Done StartFailed x m = of_words files sink wire words Done StartFailed x m
ends_as_expected files sink wire words Done DoorFault x m = of_words files sink wire words Done DoorFault x m
ends_as_expected files sink wire words Refused Done x m = of_words files sink wire words Refused Done x m
ends_as_expected files sink wire words Refused Refused x m = of_words files sink wire words Refused Refused x m
ends_as_expected files sink wire words Refused BadSchedule x m = of_words files sink wire words Refused BadSchedule x m
ends_as_expected files sink wire words Refused TooLong x m = of_words files sink wire words Refused TooLong x m
ends_as_expected files sink wire words Refused StartFailed x m = of_words files sink wire words Refused StartFailed x m
ends_as_expected files sink wire words Refused DoorFault x m = of_words files sink wire words Refused DoorFault x m
ends_as_expected files sink wire words BadSchedule Done x m = of_words files sink wire words BadSchedule Done x m
ends_as_expected files sink wire words BadSchedule Refused x m = of_words files sink wire words BadSchedule Refused x m
ends_as_expected files sink wire words BadSchedule BadSchedule x m = of_words files sink wire words BadSchedule BadSchedule x m
ends_as_expected files sink wire words BadSchedule TooLong x m = of_words files sink wire words BadSchedule TooLong x m
ends_as_expected files sink wire words BadSchedule StartFailed x m = of_words files sink wire words BadSchedule StartFailed x m
ends_as_expected files sink wire words BadSchedule DoorFault x m = of_words files sink wire words BadSchedule DoorFault x m
ends_as_expected files sink wire words TooLong Done x m = of_words files sink wire words TooLong Done x m
ends_as_expected files sink wire words TooLong Refused x m = of_words files sink wire words TooLong Refused x m
ends_as_expected files sink wire words TooLong BadSchedule x m = of_words files sink wire words TooLong BadSchedule x m
ends_as_expected files sink wire words TooLong TooLong x m = of_words files sink wire words TooLong TooLong x m
ends_as_expected files sink wire words TooLong StartFailed x m = of_words files sink wire words TooLong StartFailed x m
ends_as_expected files sink wire words TooLong DoorFault x m = of_words files sink wire words TooLong DoorFault x m
ends_as_expected files sink wire words FileFault Done x m = of_words files sink wire words FileFault Done x m
ends_as_expected files sink wire words FileFault Refused x m = of_words files sink wire words FileFault Refused x m
ends_as_expected files sink wire words FileFault BadSchedule x m = of_words files sink wire words FileFault BadSchedule x m
ends_as_expected files sink wire words FileFault TooLong x m = of_words files sink wire words FileFault TooLong x m
ends_as_expected files sink wire words FileFault StartFailed x m = of_words files sink wire words FileFault StartFailed x m
ends_as_expected files sink wire words FileFault DoorFault x m = of_words files sink wire words FileFault DoorFault x m
ends_as_expected files sink wire words SinkFault Done x m = of_words files sink wire words SinkFault Done x m
ends_as_expected files sink wire words SinkFault Refused x m = of_words files sink wire words SinkFault Refused x m
ends_as_expected files sink wire words SinkFault BadSchedule x m = of_words files sink wire words SinkFault BadSchedule x m
ends_as_expected files sink wire words SinkFault TooLong x m = of_words files sink wire words SinkFault TooLong x m
ends_as_expected files sink wire words SinkFault StartFailed x m = of_words files sink wire words SinkFault StartFailed x m
ends_as_expected files sink wire words SinkFault DoorFault x m = of_words files sink wire words SinkFault DoorFault x m
ends_as_expected files sink wire words WireFault Done x m = of_words files sink wire words WireFault Done x m
ends_as_expected files sink wire words WireFault Refused x m = of_words files sink wire words WireFault Refused x m
ends_as_expected files sink wire words WireFault BadSchedule x m = of_words files sink wire words WireFault BadSchedule x m
ends_as_expected files sink wire words WireFault TooLong x m = of_words files sink wire words WireFault TooLong x m
ends_as_expected files sink wire words WireFault StartFailed x m = of_words files sink wire words WireFault StartFailed x m
ends_as_expected files sink wire words WireFault DoorFault x m = of_words files sink wire words WireFault DoorFault x m
ends_as_expected files sink wire words NoMemory Done x m = of_words files sink wire words NoMemory Done x m
ends_as_expected files sink wire words NoMemory Refused x m = of_words files sink wire words NoMemory Refused x m
ends_as_expected files sink wire words NoMemory BadSchedule x m = of_words files sink wire words NoMemory BadSchedule x m
ends_as_expected files sink wire words NoMemory TooLong x m = of_words files sink wire words NoMemory TooLong x m
ends_as_expected files sink wire words NoMemory StartFailed x m = of_words files sink wire words NoMemory StartFailed x m
ends_as_expected files sink wire words NoMemory DoorFault x m = of_words files sink wire words NoMemory DoorFault x m
ends_as_expected files sink wire words StartFailed Done x m = of_words files sink wire words StartFailed Done x m
ends_as_expected files sink wire words StartFailed Refused x m = of_words files sink wire words StartFailed Refused x m
ends_as_expected files sink wire words StartFailed BadSchedule x m = of_words files sink wire words StartFailed BadSchedule x m
ends_as_expected files sink wire words StartFailed TooLong x m = of_words files sink wire words StartFailed TooLong x m
ends_as_expected files sink wire words StartFailed StartFailed x m = of_words files sink wire words StartFailed StartFailed x m
ends_as_expected files sink wire words StartFailed DoorFault x m = of_words files sink wire words StartFailed DoorFault x m
ends_as_expected files sink wire words DoorFault Done x m = of_words files sink wire words DoorFault Done x m
ends_as_expected files sink wire words DoorFault Refused x m = of_words files sink wire words DoorFault Refused x m
ends_as_expected files sink wire words DoorFault BadSchedule x m = of_words files sink wire words DoorFault BadSchedule x m
ends_as_expected files sink wire words DoorFault TooLong x m = of_words files sink wire words DoorFault TooLong x m
ends_as_expected files sink wire words DoorFault StartFailed x m = of_words files sink wire words DoorFault StartFailed x m
ends_as_expected files sink wire words DoorFault DoorFault x m = of_words files sink wire words DoorFault DoorFault x m
