-- Headers and their faults, by computing.
use Rattle.std.proofs.Common.{◌≡◌, Err, refl}
use Rattle.std.specs.Prelude.{codes}
use Rattle.ely_digest_msg.specs.Members.{members_of}
use Rattle.ely_digest_msg.specs.Headers.{header_of}
use Rattle.ely_digest_msg.specs.declared.fault.DigestFault.TheVariants.{Scheme, Token, Quote, Repeat, Missing}
use Rattle.ely_digest_msg.specs.declared.fault.DigestField.TheVariants.{Username, Nc}

empty : header_of (codes "") ≡ Err Scheme
empty = refl

word : header_of (codes "Digest") ≡ Err Scheme
word = refl

basic : header_of (codes "Basic x") ≡ Err Scheme
basic = refl

one_space : header_of (codes "Digest ") ≡ Err (Missing Username)
unfolding members_of
one_space = refl

no_equals : header_of (codes "Digest username") ≡ Err (Token 15)
unfolding members_of
no_equals = refl

open_quote : header_of (codes "Digest username=\"a") ≡ Err (Quote 16)
unfolding members_of
open_quote = refl

twice : header_of (codes "Digest nc=00000001, NC=00000002") ≡ Err (Repeat Nc)
unfolding members_of
twice = refl
