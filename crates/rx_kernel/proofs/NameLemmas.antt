-- Names that get values, lose them, or are exposed.
use Rattle.std.proofs.Common.{◌≡◌, ℕ, ◌<◌, ◌≤◌, Bool, true, false, List, [], ◌∷◌, length, Option, Result, Ok, Err, IsErr, OnErr, OnOk, refl, sym, ◌∙◌, ap, subst, lt-ltb, le-ltb}
use Rattle.std.specs.Prelude.{if◌then◌else◌}
use Rattle.rx_tree.specs.Bytes.{longest}
use Rattle.rx_tree.specs.declared.name.Derived.{Derived}
use Rattle.rx_tree.specs.declared.name.Name.{Name}
use Rattle.rx_tree.specs.declared.value.Value.{Value}
use Rattle.rx_vars.specs.Variables.{Variables}
use Rattle.rx_pools.specs.Pools.{Pools, watched_name, with_cell}
use Rattle.rx_clause_tree.specs.declared.package.Package.{Package}
use Rattle.rx_frames.specs.declared.position.Position.{Position}
use Rattle.rx_frames.specs.Frames.{Frame, with_value}
use Rattle.rx_frames.specs.Activities.{Activity, with_change_at, with_top_changed, with_value_below}
use Rattle.rx_names.specs.declared.home.Home.{Home}
use Rattle.rx_names.specs.declared.home.Home.TheVariants as lives
use Rattle.rx_names.specs.declared.tail.NamesRefused.{NamesRefused}
use Rattle.rx_names.specs.declared.tail.NamesRefused.TheVariants as refused
use Rattle.rx_names.specs.Deriving.{derive, spelled}
use Rattle.rx_names.specs.Homes.{activities_with, home, pools_with, variables_at}
use Rattle.rx_machine.specs.Assigning.{Assigned, All, TooLong, assign_from, derived, expose_from, is_too_long, with_exposed, with_value as with_value_at}
use Rattle.rx_machine.specs.World.{World}
use Rattle.rx_kernel.specs.declared.state.State.{State}
use Rattle.rx_kernel.specs.Exposing.{exposing}
use Rattle.rx_kernel.specs.Readings.{CodesFit, fixed_for_body, fixed_for_code, reading}
use Rattle.rx_kernel.specs.States.{world_of}
use Rattle.rx_kernel.specs.Steps.{Comes}
use Rattle.rx_kernel.specs.Views.{Reading, activities_view, activity_view, frame_view}
use Rattle.rx_kernel.proofs.ViewLemmas.{change-map, view-changed, view-variables}

-- ---- what stands in frames

value-below-view : {T : Type 0} (read : Reading T) (down : ℕ) (name : Derived) (value : Option Value) (x : Activity Position)
    → with_value_below down name value (activity_view read x) ≡ activity_view read (with_value_below down name value x)
value-below-view {T} read down name value x =
    ap (λ (fs : List (Frame T)). record (activity_view read x) { frames = fs })
    (change-map (frame_view read) x.frames down (with_value name value) (with_value name value) (λ f. refl))

value-view : {T : Type 0} (read : Reading T) (activities : List (Activity Position)) (a : ℕ) (h : Home) (name : Derived) (value : Option Value)
    → activities_with (activities_view read activities) a h name value ≡ activities_view read (activities_with activities a h name value)
value-view read activities a (lives.Frame down) name value =
    view-changed read activities a (with_value_below down name value) (with_value_below down name value) (value-below-view read down name value)
value-view read activities a (lives.Pool pool) name value = refl

exposing-below-view : {T : Type 0} (read : Reading T) (name : Derived) (pool : ℕ) (x : Activity Position)
    → with_top_changed (exposing name pool) (activity_view read x) ≡ activity_view read (with_top_changed (exposing name pool) x)
exposing-below-view {T} read name pool x =
    ap (λ (fs : List (Frame T)). record (activity_view read x) { frames = fs })
    (change-map (frame_view read) x.frames 0 (exposing name pool) (exposing name pool) (λ f. refl))

-- the activities once a name lives in a pool for the frame on top of one of them
abbrev pub exposing_at : {T : Type 0} → List (Activity T) → ℕ → Derived → ℕ → List (Activity T)
exposing_at activities a name pool = with_change_at activities a (with_top_changed (exposing name pool))

exposing-view : {T : Type 0} (read : Reading T) (activities : List (Activity Position)) (a : ℕ) (name : Derived) (pool : ℕ)
    → exposing_at (activities_view read activities) a name pool ≡ activities_view read (exposing_at activities a name pool)
exposing-view read activities a name pool =
    view-changed read activities a (with_top_changed (exposing name pool)) (with_top_changed (exposing name pool)) (exposing-below-view read name pool)

-- ---- the code that goes on stays that of the body

value-codes : (program : Package) (activities next : List (Activity Position)) (a : ℕ) (h : Home) (name : Derived) (value : Option Value)
    → next ≡ activities_with activities a h name value → CodesFit program activities → CodesFit program next
value-codes program activities next a h name value is fits =
    ap (activities_view (fixed_for_code program)) is
    ∙ sym (value-view (fixed_for_code program) activities a h name value)
    ∙ ap (λ as_they. activities_with as_they a h name value) fits
    ∙ value-view (fixed_for_body program) activities a h name value
    ∙ ap (activities_view (fixed_for_body program)) (sym is)

-- so does a change that may have been refused
pub set-codes : {R E : Type 0} (program : Package) (activities next : List (Activity Position)) (a : ℕ) (h : Home) (name : Derived) (value : Option Value) (result : Result R E)
    → OnOk result (next ≡ activities_with activities a h name value) → OnErr result (next ≡ activities) → CodesFit program activities → CodesFit program next
set-codes program activities next a h name value (Ok done) ok err fits = value-codes program activities next a h name value ok fits
set-codes program activities next a h name value (Err error) ok err fits = subst (CodesFit program) (sym err) fits

pub exposing-codes : (program : Package) (activities next : List (Activity Position)) (a : ℕ) (name : Derived) (pool : ℕ)
    → next ≡ exposing_at activities a name pool → CodesFit program activities → CodesFit program next
exposing-codes program activities next a name pool is fits =
    ap (activities_view (fixed_for_code program)) is
    ∙ sym (exposing-view (fixed_for_code program) activities a name pool)
    ∙ ap (λ as_they. exposing_at as_they a name pool) fits
    ∙ exposing-view (fixed_for_body program) activities a name pool
    ∙ ap (activities_view (fixed_for_body program)) (sym is)

-- ---- one name

derived-is : (s : State) (a : ℕ) (name : Name) → derived (world_of s) a name ≡ derive (variables_at s.parts.stacks a) s.parts.pools name
derived-is s a name = ap (λ (vs : List Variables). derive vs s.parts.pools name) (view-variables (reading s.program) s.parts.stacks a)

long-is : (s : State) (a : ℕ) (name : Name) → longest < length (spelled (derive (variables_at s.parts.stacks a) s.parts.pools name))
    → is_too_long (derived (world_of s) a name) ≡ true
long-is s a name long = ap is_too_long (derived-is s a name) ∙ lt-ltb longest _ long

short-is : (s : State) (a : ℕ) (name : Name) → length (spelled (derive (variables_at s.parts.stacks a) s.parts.pools name)) ≤ longest
    → is_too_long (derived (world_of s) a name) ≡ false
short-is s a name short = ap is_too_long (derived-is s a name) ∙ le-ltb longest _ short

pub assign-long : (s : State) (a : ℕ) (name : Name) (value : Option Value)
    → longest < length (spelled (derive (variables_at s.parts.stacks a) s.parts.pools name))
    → assign_from (world_of s) a ((name, value) ∷ []) ≡ TooLong (world_of s)
assign-long s a name value long =
    ap (λ (b : Bool). if b then TooLong (world_of s) else All (with_value_at (world_of s) a (derived (world_of s) a name) value)) (long-is s a name long)

pub assign-short : (s : State) (a : ℕ) (name : Name) (value : Option Value) (one : Derived) (next : List (Activity Position)) (pools : Pools)
    → one ≡ derive (variables_at s.parts.stacks a) s.parts.pools name
    → length (spelled (derive (variables_at s.parts.stacks a) s.parts.pools name)) ≤ longest
    → next ≡ activities_with s.parts.stacks a (home (variables_at s.parts.stacks a) one) one value
    → pools ≡ pools_with s.parts.pools (home (variables_at s.parts.stacks a) one) one value
    → assign_from (world_of s) a ((name, value) ∷ []) ≡ All (record (world_of s) { activities = activities_view (reading s.program) next; pools = pools })
assign-short s a name value one next pools is short next-is pools-is =
    let w : World = world_of s in
    let vs : List Variables = variables_at s.parts.stacks a in
    ap (λ (b : Bool). if b then TooLong w else All (with_value_at w a (derived w a name) value)) (short-is s a name short)
    ∙ ap (λ (d : Derived). All (with_value_at w a d value)) (derived-is s a name ∙ sym is)
    ∙ ap (λ (us : List Variables). All (record w { activities = activities_with w.activities a (home us one) one value; pools = pools_with w.pools (home us one) one value }))
    (view-variables (reading s.program) s.parts.stacks a)
    ∙ ap (λ as_they. All (record w { activities = as_they; pools = pools_with w.pools (home vs one) one value }))
    (value-view (reading s.program) s.parts.stacks a (home vs one) one value ∙ ap (activities_view (reading s.program)) (sym next-is))
    ∙ ap (λ (ps : Pools). All (record w { activities = activities_view (reading s.program) next; pools = ps })) (sym pools-is)

pub expose-long : (s : State) (a pool : ℕ) (name : Name)
    → longest < length (spelled (derive (variables_at s.parts.stacks a) s.parts.pools name))
    → expose_from (world_of s) a pool (name ∷ []) ≡ TooLong (world_of s)
expose-long s a pool name long =
    ap (λ (b : Bool). if b then TooLong (world_of s) else All (with_exposed (world_of s) a pool (derived (world_of s) a name))) (long-is s a name long)

pub expose-short : (s : State) (a pool : ℕ) (name : Name) (one : Derived) (next : List (Activity Position)) (pools : Pools)
    → one ≡ derive (variables_at s.parts.stacks a) s.parts.pools name
    → length (spelled (derive (variables_at s.parts.stacks a) s.parts.pools name)) ≤ longest
    → next ≡ exposing_at s.parts.stacks a one pool → pools ≡ with_cell s.parts.pools pool (watched_name one)
    → expose_from (world_of s) a pool (name ∷ []) ≡ All (record (world_of s) { activities = activities_view (reading s.program) next; pools = pools })
expose-short s a pool name one next pools is short next-is pools-is =
    let w : World = world_of s in
    ap (λ (b : Bool). if b then TooLong w else All (with_exposed w a pool (derived w a name))) (short-is s a name short)
    ∙ ap (λ (d : Derived). All (with_exposed w a pool d)) (derived-is s a name ∙ sym is)
    ∙ ap (λ as_they. All (record w { activities = as_they; pools = with_cell w.pools pool (watched_name one) }))
    (exposing-view (reading s.program) s.parts.stacks a one pool ∙ ap (activities_view (reading s.program)) (sym next-is))
    ∙ ap (λ (ps : Pools). All (record w { activities = activities_view (reading s.program) next; pools = ps })) (sym pools-is)

-- ---- what comes of it

-- it was refused
pub comes-refused : (result : Result (Unit {0}) NamesRefused) (w : World) (assigned : Assigned) → IsErr result
    → (result ≡ Err refused.Long → assigned ≡ TooLong w) → Comes result w assigned
comes-refused (Ok done) w assigned is long = cc
comes-refused (Err refused.Long) w assigned is long = long refl
comes-refused (Err refused.OutOfMemory) w assigned is long = tt
