-- What was read and written so far.
use Rattle.std.proofs.Common.{◌≡◌, ℕ, zero, suc, ◌<◌, ◌≤◌, ◌+◌, ◌-◌, List, [], ◌++◌, Option, None, Some, length, take, drop, sym, refl, arith, append-nil, subst, take-add}
use Rattle.std.proofs.Math.Seq.{take-append_seam}
use Rattle.std.proofs.lemmas.List.{take-append-drop, take_all, take_rest}
use Rattle.std.proofs.lemmas.Grind.{common_steps}
use Rattle.std.specs.Io.KnownBytes.{Appends, Consumes, IsAtEnd}
use Rattle.std.proofs.KnownBytes.{Appends-trans}
use Rattle.rx_ports.specs.Sinks.{AppendsPrefix}
use Rattle.rx_ports.specs.Streams.{HasLeft}

-- bytes of which those before a place were appended
pub AppendsPrefix-take : (old new : Option (List ℕ)) (bytes : List ℕ) (at : ℕ) → Appends old new (take at bytes) → AppendsPrefix old new bytes
AppendsPrefix-take old new bytes at written = (take at bytes, drop at bytes, sym (take-append-drop at bytes), written)

-- the front of all that there was, of which the rest is none or isn't wanted
front_is : (whole rest left front : List ℕ) (most room : ℕ) → whole ≡ front ++ rest → rest ≡ [] ++ left → (0 < room → left ≡ []) →
    length front ≤ most → (room ≡ 0 → length front ≡ most) → front ≡ take most whole
front_is whole rest left front most zero all last end fits full =
    grind (arith, common_steps, take-append_seam front rest)
front_is whole rest left front most (suc room) all last end fits full =
    let none : left ≡ [] = end (omega arith) in
    grind (arith, common_steps, take_all most front fits, append-nil front)

-- what a reader gave up to its end, or up to what is wanted, is the front of what it had left
pub HasLeft-front : (old mid new : Option (List ℕ)) (front : List ℕ) (most room : ℕ) → Consumes old mid front → Consumes mid new [] →
    (0 < room → IsAtEnd new) → length front ≤ most → (room ≡ 0 → length front ≡ most) →
    (whole : List ℕ) × HasLeft old whole × (front ≡ take most whole)
HasLeft-front None mid new front most room before last end fits full = (front, tt, sym (take_all most front fits))
HasLeft-front (Some x) None new front most room before last end fits full = absurd before
HasLeft-front (Some x) (Some y) None front most room before last end fits full = absurd last
HasLeft-front (Some x) (Some y) (Some z) front most room before last end fits full =
    (x, refl, front_is x y z front most room before last end fits full)

-- a write that took none
pub Appends-none : (old mid new : Option (List ℕ)) (bytes : List ℕ) → Appends old mid bytes → Appends mid new [] → Appends old new bytes
Appends-none old mid new bytes before last =
    subst (Appends old new) (append-nil bytes) (Appends-trans old mid new bytes [] before last)

-- a write of the bytes from a place on that took some
pub Appends-next : (old mid new : Option (List ℕ)) (bytes : List ℕ) (at count : ℕ) → Appends old mid (take at bytes) →
    Appends mid new (take count (take (length bytes - at) (drop at bytes))) → Appends old new (take (at + count) bytes)
Appends-next old mid new bytes at count before last =
    let moved : Appends mid new (take count (drop at bytes)) = subst (λ rest. Appends mid new (take count rest)) (take_rest bytes at) last in
    rw (take-add at count bytes) (Appends-trans old mid new (take at bytes) (take count (drop at bytes)) before moved)
