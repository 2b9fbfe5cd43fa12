-- The way down to where a name lives.
use Rattle.std.proofs.Common.{◌≡◌, ◌<◌, ◌≤◌, ℕ, zero, suc, ◌+◌, ◌-◌, Bool, false, Option, Some, None, List, [], ◌∷◌, length, drop, refl, sym, ap, ◌∙◌, subst, arith}
use Rattle.std.specs.Prelude.{map, slice_get, unwrap_or, if◌then◌else◌}
use Rattle.std.specs.Option.{option_map}
use Rattle.std.proofs.lemmas.List.{drop-drop, drop_all, length-drop}
use Rattle.rx_tree.specs.declared.name.Derived.{Derived}
use Rattle.rx_tree.specs.declared.name.Derived.TheVariants.{Simple, Stem, Compound}
use Rattle.rx_tree.specs.declared.name.Place.{Place}
use Rattle.rx_tree.specs.declared.name.Place.TheVariants.{Here, Below, Pool}
use Rattle.rx_vars.specs.Names.{Names, found, no_names}
use Rattle.rx_vars.specs.Variables.{Variables, home as place_of, own_place}
use Rattle.rx_frames.specs.Frames.{Frame, IsShared}
use Rattle.rx_frames.specs.Activities.{ShareAll}
use Rattle.rx_names.specs.declared.home.Home.{Home}
use Rattle.rx_names.specs.declared.home.Home.TheVariants as lives
use Rattle.rx_names.specs.Homes.{beneath, home, home_by, variables_of}

-- a home, seen from so many frames further up
abbrev pub lowered : ℕ → Home → Home
lowered down (lives.Frame more) = lives.Frame (down + more)
lowered down (lives.Pool pool) = lives.Pool pool

pub lowered-zero : (h : Home) → lowered 0 h ≡ h
lowered-zero (lives.Frame more) = ap lives.Frame (omega arith)
lowered-zero (lives.Pool pool) = refl

lowered-beneath : (down : ℕ) (h : Home) → lowered down (beneath h) ≡ lowered (down + 1) h
lowered-beneath down (lives.Frame more) = ap lives.Frame (omega arith)
lowered-beneath down (lives.Pool pool) = refl

beneath-lowered : (down : ℕ) (h : Home) → beneath (lowered down h) ≡ lowered (suc down) h
beneath-lowered down (lives.Frame more) = ap lives.Frame (omega arith)
beneath-lowered down (lives.Pool pool) = refl

lowered-lowered : (down more : ℕ) (h : Home) → lowered down (lowered more h) ≡ lowered (down + more) h
lowered-lowered down more (lives.Frame further) = ap lives.Frame (omega arith)
lowered-lowered down more (lives.Pool pool) = refl

-- ---- frames that share all variables

found-nothing : (name : Derived) → found {A = Place} no_names name ≡ None
found-nothing (Simple name) = refl
found-nothing (Stem stem) = refl
found-nothing (Compound stem tail) = refl

pub place-shared : (variables : Variables) (name : Derived) → IsShared variables → place_of variables name ≡ Below
place-shared variables name is =
    ap (λ (exposed : Names Place). unwrap_or (found exposed name) (own_place variables.alone)) is.1
    ∙ ap (λ place. unwrap_or place (own_place variables.alone)) (found-nothing name)
    ∙ ap own_place is.0

home-shared : {T : Type 0} (frames : List (Frame T)) (count : ℕ) (name : Derived) → ShareAll frames count → count ≤ length frames
    → home (variables_of frames) name ≡ lowered count (home (variables_of (drop count frames)) name)
home-shared frames zero name are few = sym (lowered-zero (home (variables_of frames) name))
home-shared [] (suc count) name are few = absurd (omega (arith, few))
home-shared (frame ∷ frames) (suc count) name are few =
    ap (λ place. home_by place (home (variables_of frames) name)) (place-shared frame.variables name (are 0 frame (omega arith) refl))
    ∙ ap beneath (home-shared frames count name (λ k other below at. are (suc k) other (omega arith) at) (omega (arith, few)))
    ∙ beneath-lowered count (home (variables_of (drop count frames)) name)

-- ---- one frame

home-step : {T : Type 0} (frames : List (Frame T)) (down : ℕ) (name : Derived) (place : Place)
    → option_map (λ (frame : Frame T). place_of frame.variables name) (slice_get frames down) ≡ Some place
    → home (variables_of (drop down frames)) name ≡ home_by place (home (variables_of (drop (down + 1) frames)) name)
home-step [] down name place at = cc
home-step (frame ∷ frames) zero name place at =
    let same : place_of frame.variables name ≡ place = cc (at) in
    ap (λ p. home_by p (home (variables_of frames) name)) same
home-step (frame ∷ frames) (suc down) name place at =
    let e : suc down + 1 ≡ suc (down + 1) = omega arith in rw e (home-step frames down name place at)

-- ---- the walk: so many frames were passed, and the name lives where it does from the next one on

pub lives-here : {T : Type 0} (frames : List (Frame T)) (down : ℕ) (name : Derived) (h : Home)
    → h ≡ lowered down (home (variables_of (drop down frames)) name)
    → option_map (λ (frame : Frame T). place_of frame.variables name) (slice_get frames down) ≡ Some Here → lives.Frame down ≡ h
lives-here frames down name h walked at =
    ap lives.Frame (omega arith) ∙ ap (lowered down) (sym (home-step frames down name Here at)) ∙ sym walked

pub lives-in_pool : {T : Type 0} (frames : List (Frame T)) (down : ℕ) (name : Derived) (h : Home) (pool : ℕ)
    → h ≡ lowered down (home (variables_of (drop down frames)) name)
    → option_map (λ (frame : Frame T). place_of frame.variables name) (slice_get frames down) ≡ Some (Pool pool) → lives.Pool pool ≡ h
lives-in_pool frames down name h pool walked at =
    ap (lowered down) (sym (home-step frames down name (Pool pool) at)) ∙ sym walked

pub lives-lower : {T : Type 0} (frames : List (Frame T)) (down count : ℕ) (name : Derived) (h : Home)
    → h ≡ lowered down (home (variables_of (drop down frames)) name)
    → option_map (λ (frame : Frame T). place_of frame.variables name) (slice_get frames down) ≡ Some Below
    → ShareAll (drop (down + 1) frames) count → count ≤ length frames - (down + 1)
    → h ≡ lowered (down + 1 + count) (home (variables_of (drop (down + 1 + count) frames)) name)
lives-lower frames down count name h walked at are few =
    walked
    ∙ ap (lowered down) (home-step frames down name Below at)
    ∙ lowered-beneath down (home (variables_of (drop (down + 1) frames)) name)
    ∙ ap (lowered (down + 1)) (home-shared (drop (down + 1) frames) count name are (omega (arith, length-drop (down + 1) frames)))
    ∙ lowered-lowered (down + 1) count (home (variables_of (drop count (drop (down + 1) frames))) name)
    ∙ ap (λ fs. lowered (down + 1 + count) (home (variables_of fs) name)) (drop-drop count (down + 1) frames)

-- no frame is left
pub lives-nowhere : {T : Type 0} (frames : List (Frame T)) (down : ℕ) (name : Derived) (h : Home)
    → h ≡ lowered down (home (variables_of (drop down frames)) name) → length frames ≡ down → lives.Frame down ≡ h
lives-nowhere frames down name h walked past =
    ap lives.Frame (omega arith)
    ∙ ap (λ fs. lowered down (home (variables_of fs) name)) (sym (drop_all down frames (omega arith)))
    ∙ sym walked
