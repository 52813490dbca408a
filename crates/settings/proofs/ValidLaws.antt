-- A configuration stays valid where a key is added.
use Rattle.std.proofs.Common.{◌≡◌, ℕ, Bool, true, false, cond, List, Option, Some, Result, Ok, Err, OnOk, OnErr, IsTrue, Less, Equal, Greater, refl, sym, ◌∙◌}
use Rattle.std.specs.Prelude.{IsSome}
use Rattle.std.specs.FinMap as map
use Rattle.std.specs.Ordering.{is_eq}
use Rattle.std.proofs.lemmas.Cmp.{nat_list_cmp_total}
use Rattle.settings.specs.declared.sign_conf.SignConf.{SignConf}
use Rattle.settings.specs.Configuration.{Configuration}
use Rattle.settings.specs.Keys.{KeyMap}
use Rattle.settings.specs.Valid.{IsValid, IsValidSign}
use Rattle.settings.specs.Keys.{IsHmacKey, is_keyid}
use Rattle.settings.proofs.Names.{name_cmp, same_name}

-- what a map has after an insert is what was there or what came
came_or_was : (P : List ℕ → List ℕ → Type 0) (keys : KeyMap) (keyid key : List ℕ) → P keyid key
    → ((q k : List ℕ) → map.get keys q ≡ Some k → P q k)
    → (q k : List ℕ) → map.get (map.insert keys keyid key) q ≡ Some k → P q k
came_or_was P keys keyid key came was q k there =
    let at = sym (map.get-insert nat_list_cmp_total keys keyid key q) ∙ there in
    elim (name_cmp q keyid) as (λ r. name_cmp q keyid ≡ r → P q k) [
      | Less ↦ λ e. was q k (rw e at at)
      | Equal ↦ λ e.
          let same : key ≡ k = cc (rw e at at) in
          rw (same_name q keyid e, ← same) came
      | Greater ↦ λ e. was q k (rw e at at)
    ] refl

still_there : (keys : KeyMap) (keyid key q : List ℕ) → IsSome (map.get keys q) → IsSome (map.get (map.insert keys keyid key) q)
still_there keys keyid key q there =
    rw (map.get-insert nat_list_cmp_total keys keyid key q) (either (is_eq (name_cmp q keyid)) key (map.get keys q) there)
  where
    either : (b : Bool) (key : List ℕ) (o : Option (List ℕ)) → IsSome o → IsSome (cond b (Some key) o)
    either true key o there = refl
    either false key o there = there

sign_stays : (keys : KeyMap) (keyid key : List ℕ) (sign : SignConf) → IsValidSign keys sign → IsValidSign (map.insert keys keyid key) sign
sign_stays keys keyid key sign valid = record {
  label = valid.label;
  keyid = still_there keys keyid key sign.keyid valid.keyid;
  components_request = valid.components_request;
  components_response = valid.components_response;
  expires_after = valid.expires_after;
  tag = valid.tag;
}

pub valid_with : (conf : Configuration) (keys : KeyMap) (keyid key : List ℕ) → IsValid conf → IsTrue (is_keyid keyid) → IsHmacKey key → keys ≡ map.insert conf.keys keyid key
    → IsValid (record { scheme = conf.scheme; keys = keys; types = conf.types; policies = conf.policies; nonces = conf.nonces; sign = conf.sign; gateway = conf.gateway })
valid_with conf keys keyid key valid keyid_is key_is is =
    rw is (record {
      keyids = came_or_was (λ q k. IsTrue (is_keyid q)) conf.keys keyid key keyid_is valid.keyids;
      keys = came_or_was (λ q k. IsHmacKey k) conf.keys keyid key key_is valid.keys;
      policies = valid.policies;
      least_nonces = valid.least_nonces;
      most_nonces = valid.most_nonces;
      sign = λ s there. sign_stays conf.keys keyid key s (valid.sign s there);
      gateway = valid.gateway;
    })

-- whether the key was added or not
pub valid_after : {T E : Type 0} (conf : Configuration) (keys : KeyMap) (keyid key : List ℕ) (result : Result T E) → IsValid conf → IsTrue (is_keyid keyid) → IsHmacKey key
    → OnOk result (keys ≡ map.insert conf.keys keyid key) → OnErr result (keys ≡ conf.keys)
    → IsValid (record { scheme = conf.scheme; keys = keys; types = conf.types; policies = conf.policies; nonces = conf.nonces; sign = conf.sign; gateway = conf.gateway })
valid_after conf keys keyid key (Ok x) valid keyid_is key_is ok err = valid_with conf keys keyid key valid keyid_is key_is ok
valid_after conf keys keyid key (Err e) valid keyid_is key_is ok err = rw err valid
