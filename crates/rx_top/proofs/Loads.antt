-- What the first bytes of a file, one more than the longest source has, say of the file.
use Rattle.std.proofs.Common.{◌≡◌, ◌≤◌, ◌<◌, ℕ, List, length, take, refl, sym, ◌∙◌, subst, Option, Vec, arith, min, length-take}
use Rattle.std.proofs.lemmas.List.{take_all}
use Rattle.std.specs.declared.alloc.Global.{Global}
use Rattle.rx_ports.specs.Shelves.{Files, Fetches, HasFile}
use Rattle.rx_ports.specs.declared.shelf.Fetched.TheVariants.{Bytes}
use Rattle.rx_packages.specs.Programs.{longest_source}
use Rattle.rx_packages.specs.Checking.{IsChecked}
use Rattle.rx_packages.specs.declared.checking.Checked.{Checked}
use Rattle.rx_packages.specs.declared.checking.Checked.TheVariants as checked
use Rattle.rx_packages.specs.declared.refused.SourceRefused.TheVariants as refused
use Rattle.rx_top.specs.declared.loading.Loaded.{Loaded}
use Rattle.rx_top.specs.declared.loading.Loaded.TheVariants as loaded
use Rattle.rx_top.specs.declared.conclusion.Conclusion.{Conclusion}
use Rattle.rx_top.specs.Words.{ToCheck}
use Rattle.rx_top.specs.Ports.{supplies}
use Rattle.rx_top.specs.Loading.{HasSource, IsLoaded, IsRead, IsLong}
use Rattle.rx_top.specs.Conclusions.{OfFine, OfBad, OfLong, OfDeep, ChecksFile, IsToldOf}

-- first bytes that are fewer than were asked for are all
take_short : (n m : ℕ) (whole : List ℕ) → length (take n whole) ≤ m → m < n → take n whole ≡ whole
take_short n m whole short less =
    let front : length (take n whole) ≡ min n (length whole) = length-take n whole in
    take_all n whole (omega arith)

-- bytes that are no more than the longest source are the whole file
whole_file : (files : Option Files) (name : List ℕ) (v : Vec ℕ Global) → Fetches files name 4194305 (Bytes v) → length v.items ≤ longest_source
    → HasFile files name v.items
whole_file files name v fetched short =
    let front : length (take 4194305 fetched.0) ≤ 4194304 = subst (λ (xs : List ℕ). length xs ≤ 4194304) fetched.2 short in
    let whole : v.items ≡ fetched.0 = fetched.2 ∙ take_short 4194305 4194304 fetched.0 front (omega arith) in
    subst (λ (xs : List ℕ). HasFile files name xs) (sym whole) fetched.1

-- more bytes are of a longer file
longer : (whole : List ℕ) (v : Vec ℕ Global) → v.items ≡ take 4194305 whole → longest_source < length v.items → longest_source < length whole
longer whole v is long =
    let front : length (take 4194305 whole) ≡ min 4194305 (length whole) = length-take 4194305 whole in
    let over : 4194304 < length (take 4194305 whole) = subst (λ (xs : List ℕ). 4194304 < length xs) is long in
    omega arith

-- the bytes are the file's source, which is like this
has-source : (files : Option Files) (name : List ℕ) (v : Vec ℕ Global) (like : List ℕ → Type 0) → Fetches files name 4194305 (Bytes v)
    → length v.items ≤ longest_source → like v.items → HasSource files name like
has-source files name v like fetched short is = record { source = v.items; has = whole_file files name v fetched short; is = is }

has-long : (files : Option Files) (name : List ℕ) (v : Vec ℕ Global) → Fetches files name 4194305 (Bytes v) → longest_source < length v.items
    → HasSource files name IsLong
has-long files name v fetched long = record { source = fetched.0; has = fetched.1; is = longer fetched.0 v fetched.2 long }

-- ---- a program that is loaded

pub loaded-by : (files : Option Files) (name : List ℕ) (v : Vec ℕ Global) (one : Loaded) → Fetches files name 4194305 (Bytes v) → IsRead v.items one
    → IsLoaded files name one
loaded-by files name v (loaded.Found program) fetched is = has-source files name v _ fetched is.0.written.short is
loaded-by files name v (loaded.Unbuilt line) fetched is = has-source files name v _ fetched is.is.written.short is
loaded-by files name v (loaded.Refused refused.Long) fetched is = has-long files name v fetched is
loaded-by files name v (loaded.Refused refused.Deep) fetched is = has-source files name v _ fetched is.short is
loaded-by files name v (loaded.Refused (refused.Bad line number)) fetched is =
    has-source files name v _ fetched is.0.short (record { at = is.0; none = is.1 })
loaded-by files name v (loaded.Refused refused.OutOfMemory) fetched is = tt
loaded-by files name v loaded.ShelfFault fetched is = absurd is

-- ---- a source that is checked

pub checks-source : (files now : Option Files) (before faults : ℕ) (name : List ℕ) (v : Vec ℕ Global) (one : Checked) (told : Conclusion)
    → Fetches files name 4194305 (Bytes v) → IsChecked v.items one → IsToldOf one told → (input : Option (List ℕ)) (input_faults : ℕ)
    → ChecksFile name (supplies files before input input_faults) (supplies now faults input input_faults) told
checks-source files now before faults name v checked.Fine told fetched is ran = λ input input_faults words asked. OfFine ran refl (record {
  name = name;
  asked = asked;
  has = has-source files name v _ fetched is.is.written.short is;
})
checks-source files now before faults name v (checked.Refused line number) told fetched is ran = λ input input_faults words asked. OfBad line number ran refl (record {
  name = name;
  asked = ToCheck asked;
  has = has-source files name v _ fetched is.at.short is;
})
checks-source files now before faults name v checked.LongSource told fetched is ran = λ input input_faults words asked. OfLong ran refl (record {
  name = name;
  asked = ToCheck asked;
  has = has-long files name v fetched is;
})
checks-source files now before faults name v checked.DeepSource told fetched is ran = λ input input_faults words asked. OfDeep ran refl (record {
  name = name;
  asked = ToCheck asked;
  has = has-source files name v _ fetched is.short is;
})
checks-source files now before faults name v checked.NoMemory told fetched is ran = absurd ran
