-- The bytes of a tag give its fields back. The proof stands here, where the model of a tag can cite it.
use Rattle.std.proofs.Common.{◌≡◌, ℕ, ◌≤◌, List, length, take, arith, ap, sym}
use Rattle.std.proofs.lemmas.List.{length-take-le}
use Rattle.ely_hash.specs.declared.tag.Tag.TheInside.{Inside}
use Rattle.ely_hash.specs.Tags.{IsTag, inside_of}

pub inside_of-bytes : (t : Inside) → IsTag t → inside_of (take t.len t.buffer) ≡ t
inside_of-bytes t h =
    let fits : t.len ≤ length t.buffer = omega (arith, h.width, h.most) in
    let n : length (take t.len t.buffer) ≡ t.len = length-take-le t.len t.buffer fits in
    rw n (ap (λ (b : List ℕ). let r : Inside = record { buffer = b; len = t.len } in r) (sym h.rest))
