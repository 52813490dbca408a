-- The signed request of a seed has the one signature, and is accepted.
use Rattle.std.proofs.Common.{◌≡◌, ℕ, Bool, true, false, List, [], ◌∷◌, ◌++◌, inr, refl, sym, ap, subst}
use Rattle.std.specs.Int.Signed.{le_z_yes}
use Rattle.std.specs.FinMap as map
use Rattle.std.specs.List.{All}
use Rattle.std.proofs.lemmas.Bool.{false≢true}
use Rattle.std.proofs.lemmas.Cmp.{nat_list_cmp_total}
use Rattle.std.proofs.lemmas.List.Elements.{All-nil}
use Rattle.std.proofs.lemmas.Slice.Eq.{bytes_eq-Decides}
use Rattle.sha2.specs.Sha256.{sha256}
use Rattle.sfv_text.specs.Strict.{dict_text}
use Rattle.sfv_read.specs.Reads.{ReadsDict}
use Rattle.sfv_read.proofs.StrictReads.{dict_text_reads}
use Rattle.framing.specs.Framings.{is_request}
use Rattle.msg_body.specs.Messages.{Message, Spells, message_text}
use Rattle.msg_body.specs.Views.{message_content}
use Rattle.msg_body.proofs.OneMessages.{one_message_law}
use Rattle.component_values.specs.Values.{HaveValues}
use Rattle.content_digest.specs.Digests.{DigestHolds}
use Rattle.signatures.specs.SignatureBase.{signature_base}
use Rattle.hmac_sha256.specs.Hmac.{hmac}
use Rattle.signatures.specs.Signatures.{AreLabels, HasSignature}
use Rattle.signing.specs.Signed.{IsSignedMessage, IsVerifiable}
use Rattle.signing.proofs.SomeSigned.{verifiable_where_signed}
use Rattle.signing.specs.Written.{signed_message}
use Rattle.verdicts.specs.ContentDigest.{HasDigest, digest_text as digest_field}
use Rattle.verdicts.specs.Policies.{AcceptsByPolicy, IsCovered, required_ids}
use Rattle.verdicts.specs.Verdicts.{Accepts}
use Rattle.samples.specs.Chains.{IsUnsigned, sample_context}
use Rattle.samples.specs.Requests.{always_digested, content_of, request_text, sample_key, sample_keyid, sample_params, sample_spec}
use Rattle.samples.proofs.FirstReady.{first_ready, signed_is}
use Rattle.samples.proofs.Signable.{dict_in_range, digest_are_bytes, digest_value, member, no_sign_fault}
use Rattle.samples.proofs.Unsigned.{message_with, unsigned_one}
use Rattle.samples.proofs.Valid.{spec_valid}
use Rattle.samples.proofs.KeptHops.{HoldsSignature, judged, label}

-- the policy asks for no component
none_asked : (of_request : Bool) → All (IsCovered sample_params.ids) (required_ids always_digested of_request)
none_asked true = All-nil (IsCovered sample_params.ids)
none_asked false = All-nil (IsCovered sample_params.ids)

module _ (content tag : List ℕ) where
  abbrev made : Message
  made = signed_message (message_with content) sample_spec tag

  digest_holds : DigestHolds (digest_field made) (message_content made)
  digest_holds =
      let digest = sha256 (content ++ []) in
      let bytes = digest_are_bytes (content ++ []) in
      let text : digest_field made ≡ dict_text (member digest ∷ []) = ap (λ (t : List ℕ). t ++ []) (digest_value digest bytes) in
      record {
        dict = member digest ∷ [];
        reads = subst (λ (t : List ℕ). ReadsDict t (member digest ∷ [])) (sym text) (dict_text_reads (member digest ∷ []) (dict_in_range digest bytes));
        known = refl;
        each = rw ((bytes_eq-Decides digest digest).1 refl) refl;
      }

module _ (seed : ℕ) (unsigned signed : Message) (is : IsUnsigned seed unsigned) (by : IsSignedMessage (sample_context unsigned) sample_spec signed) where
  can : Spells false signed (message_text signed) × IsVerifiable (sample_context unsigned) sample_spec (message_text signed)
  can = verifiable_where_signed (sample_context unsigned) sample_spec (request_text seed) signed spec_valid is.spells by (no_sign_fault seed unsigned is)

  written : can.1.written ≡ signed
  written = one_message_law false (message_text signed) can.1.written signed can.1.spells can.0

  no_labels : AreLabels unsigned []
  no_labels = subst (λ (m : Message). AreLabels m []) (sym (unsigned_one seed unsigned is)) (inr (λ dict has. false≢true has.there, refl))

  first_labels : AreLabels signed (label ∷ [])
  first_labels = subst (λ (m : Message). AreLabels m (label ∷ [])) written (can.1.labels [] no_labels)

  first_signature : HasSignature signed label sample_params can.1.tag
  first_signature = subst (λ (m : Message). HasSignature m label sample_params can.1.tag) written can.1.signature

  first_values : HaveValues (sample_context signed) sample_params.ids can.1.values
  first_values = subst (λ (m : Message). HaveValues (sample_context m) sample_params.ids can.1.values) written can.1.have

  has_digest : HasDigest signed sample_params.ids
  has_digest = record {
    covered = refl;
    holds = subst (λ (m : Message). DigestHolds (digest_field m) (message_content m)) (sym (signed_is seed unsigned signed is by)) (digest_holds (content_of seed) (hmac sample_key (signature_base sample_params by.values)));
  }

  by_policy : AcceptsByPolicy (judged signed) always_digested sample_params
  by_policy = record {
    covered = none_asked (is_request signed.head.start);
    created = record { begun = le_z_yes tt; recent = le_z_yes tt };
    has_expires = λ asks. absurd (false≢true asks);
    unexpired = tt;
    tag = tt;
    has_nonce = λ asks. absurd cc;
    nonce = λ asks. absurd (false≢true asks);
  }

  first_accepted : Accepts (judged signed) sample_keyid
  first_accepted = record {
    params = sample_params;
    tag = can.1.tag;
    signature = first_signature;
    alg = tt;
    keyid_is = refl;
    key = sample_key;
    key_is = map.get-insert nat_list_cmp_total map.empty sample_keyid sample_key sample_keyid;
    policy = always_digested;
    chosen = refl;
    accepted = by_policy;
    values = can.1.values;
    have = first_values;
    mac = can.1.mac;
    digest = λ asks. has_digest;
    room = λ asks. absurd (false≢true asks);
  }

  pub holds_first : HoldsSignature signed
  holds_first = record {
    ready = first_ready seed unsigned signed is by;
    labels = first_labels;
    tag = can.1.tag;
    signature = first_signature;
    accepted = first_accepted;
  }
