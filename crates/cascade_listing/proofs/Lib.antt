-- From the cascade's answer to the text, and the claim
pub mod Steps
pub mod PrintedClaim
-- It is not empty
pub mod Instance
